-- `may_contain` meets its contract: a word of the filter lies in an area that holds them. Assumes nothing.
use Rattle.std.proofs.Common.{sym}
use Rattle.index.proofs.Filters.{has_none, has_short, has_is}
use Rattle.index.proofs.filter.NegativeFilter.may_contain.Goals as goal

pub returns-then-self-eq0 : goal.returns-then-self-eq0
returns-then-self-eq0 c = let a = c.args in sym (has_none a.self.words.now a.self.count a.hash c.if-self-eq0.true)

pub returns-then-self : goal.returns-then-self
returns-then-self c = let a = c.args in sym (has_short a.self.words.now a.self.count a.hash c.if-self.true)

pub returns : goal.returns
returns c =
    let a = c.args in
    rw (has_is a.self.words.now a.self.count a.hash c.if-self-eq0.false c.if-self.false) (cc)
