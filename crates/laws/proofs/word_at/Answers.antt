use Rattle.std.proofs.Common.{sym, ◌∙◌, rules}
use Rattle.laws.specs.Words.{word_at_bytes}
use Rattle.laws.proofs.word_at.Goals as goal

pub returns : goal.returns
returns c = c.word_of.ensures ∙ sym (word_at_bytes _ _ (search rules))
