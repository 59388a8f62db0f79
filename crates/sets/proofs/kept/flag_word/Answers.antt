-- `flag_word` meets its contract: the word of the flags from a position on. Assumes nothing.
use Rattle.std.proofs.Common.{◌+◌, ◌-◌, arith}
use Rattle.sets.proofs.KeptWords.{flag_bound, word_bound, word_more, word_none}
use Rattle.sets.proofs.kept.flag_word.Goals as goal

pub loop-at-init : goal.loop-at-init
loop-at-init c = word_none c.args.flags.now (c.args.from + 64)

pub overflow_mul-word : goal.overflow_mul-word
overflow_mul-word c = omega (arith, word_bound c.args.flags.now c.args.from c.loop-at.at c.loop-at.word c.loop-at.invariant c.loop-at-test.true)

pub overflow_add-word : goal.overflow_add-word
overflow_add-word c =
    let a = c.args in
    let b = word_bound a.flags.now a.from c.loop-at.at c.loop-at.word c.loop-at.invariant c.loop-at-test.true in
    omega (arith, b, c.flag_bit.ensures, flag_bound a.flags.now (a.from + (c.loop-at.at - 1)))

pub loop-at-preserved : goal.loop-at-preserved
loop-at-preserved c =
    let a = c.args in
    word_more a.flags.now a.from c.loop-at.at c.loop-at.word c.loop-at.invariant c.flag_bit.result c.loop-at-test.true c.loop-at.auto.at c.flag_bit.ensures
