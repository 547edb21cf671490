use Rattle.std.proofs.lemmas.Nat.{or_lt}
use Rattle.names.proofs.NameSet.either.Goals as goal

pub of_word-requires : goal.of_word-requires
of_word-requires g c = or_lt g.Self.Name.Name.LIMIT c.word.result c.word-2.result c.word.ensures.within c.word-2.ensures.within
