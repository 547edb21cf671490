use Rattle.std.specs.Prelude.{◌^◌}
use Rattle.std.proofs.Common.{◌<◌, arith}
use Rattle.std.proofs.Math.Pow.{pow-lt}
use Rattle.std.proofs.lemmas.Nat.{or_lt}
use Rattle.laws.specs.Sets.{including, one_shl}
use Rattle.names.proofs.NameSet.with.Goals as goal

pub of_word-requires : goal.of_word-requires
of_word-requires g c =
    let below : c.number.result < g.Self.Name.Name.LIMIT = omega arith in
    let in_word : c.number.result < 64 = omega (arith, g.met.Self.NameSet.in_a_word) in
    let bit : 2 ^ c.number.result < 2 ^ g.Self.Name.Name.LIMIT = pow-lt below in
    or_lt g.Self.Name.Name.LIMIT c.word.result _ c.word.ensures.within (omega (arith, one_shl 64 c.number.result in_word, bit))

pub returns : goal.returns
unfolding including
returns g c =
    let in_word : c.number.result < 64 = omega (arith, g.met.Self.NameSet.in_a_word) in
    rw (← c.word.ensures.value, ← c.number.ensures, ← one_shl 64 c.number.result in_word) c.of_word.ensures
