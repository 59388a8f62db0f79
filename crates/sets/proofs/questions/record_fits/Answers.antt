-- `record_fits` meets its contract. Assumes nothing.
use Rattle.std.proofs.Common.{rules}
use borrow.Author.Tests.{tests}
use Rattle.sets.proofs.Appends.{fits_told}
use Rattle.sets.proofs.questions.record_fits.Goals as goal

pub returns : goal.returns
returns c = fits_told _ _ _ c.args.rest c.ranges.rest.fits _ c.encoded_record_bytes.result _ (λ n p. search (rules, tests)) c.is_ok_and.ensures c.encoded_record_bytes.ensures
