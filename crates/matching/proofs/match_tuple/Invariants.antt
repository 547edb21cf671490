use Rattle.std.proofs.Common.{◌≡◌, ℕ, ◌<◌, true, get_or}
use Rattle.images.specs.Script.{field_at}
use Rattle.images.specs.Net.{datum0}
use Rattle.matching.specs.Match.{place_meets}
use Rattle.matching.proofs.match_tuple.Given as goal

abbrev pub invariant-loop-j : goal.invariant-loop-j
invariant-loop-j l = (i : ℕ) → i < l.j → place_meets l.vars l.a.count i (field_at l.a i) (get_or l.t.contents i datum0) ≡ true
