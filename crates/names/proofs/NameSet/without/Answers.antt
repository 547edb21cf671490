use Rattle.std.proofs.Common.{◌<◌, arith}
use Rattle.laws.specs.Sets.{excluding, excluding_wide, one_shl}
use Rattle.names.proofs.NameSet.without.Goals as goal

pub returns : goal.returns
unfolding excluding
returns g c =
    let below : c.number.result < g.Self.Name.Name.LIMIT = omega arith in
    let in_word : c.number.result < 64 = omega (arith, g.met.Self.NameSet.in_a_word) in
    rw (← c.word.ensures.value, ← c.number.ensures, ← excluding_wide 64 g.Self.Name.Name.LIMIT c.word.result c.number.result g.met.Self.NameSet.in_a_word below c.word.ensures.within)
    (rw (one_shl 64 c.number.result in_word) at c.of_word.ensures)
