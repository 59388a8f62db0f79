-- `segment_cache_rebuild_finish` meets its contract: the form of the words, then the call and what it hands back. Assumes nothing.
use Rattle.std.proofs.Common.{eq-eqb}
use Rattle.capi.specs.Rebuilds.{exported_rebuild_finish}
use Rattle.capi.proofs.rebuild_calls.segment_cache_rebuild_finish.Goals as goal

pub returns-in-Ok : goal.returns-in-Ok
unfolding exported_rebuild_finish
returns-in-Ok c =
    rw (
      eq-eqb _ _ c.if-set-ne-SET_WORDS.false,
      eq-eqb _ _ c.if-totals-ne-TOTALS_WORDS.false,
      ← c.from_words.ensures,
      c.in-Some.is,
      ← c.in-Ok.ensures,
      c.copy_words.ensures,
      c.copy_words-in-Ok.ensures,
      c.to_words.ensures,
      c.to_words-in-Ok.ensures,
    )
