use Rattle.std.proofs.Common.{◌≡◌, ℕ}
use Rattle.traces.specs.Traces.{Names, named_at, marks}
use Rattle.traces.proofs.marks_of.Given as goal

abbrev pub invariant-loop-i : goal.invariant-loop-i
invariant-loop-i g l = (named : ℕ → ℕ) → Names (goal.F-post g l.name) g.S.Name.Name.number_of named → l.m ≡ marks g.S.NameSet.set_of g.S.Name.Name.LIMIT l.i (named_at l.deed l.deeds named)
