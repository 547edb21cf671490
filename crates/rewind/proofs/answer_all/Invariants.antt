use Rattle.std.proofs.Common.{◌≤◌}
use Rattle.machine.specs.Calls.{GoodImages}
use Rattle.rewind.proofs.answer_all.Given as goal

-- less than a request is left over, and the images are good
abbrev pub invariant-loop : goal.invariant-loop
invariant-loop g l = record { few : l.have ≤ 5; good : GoodImages l.script l.net }
