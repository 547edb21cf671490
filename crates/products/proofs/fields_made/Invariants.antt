use Rattle.std.proofs.Common.{◌≡◌, ℕ, ◌<◌, ◌≤◌, length, get_or}
use Rattle.images.specs.Script.{field_at}
use Rattle.images.specs.Net.{datum0}
use Rattle.products.specs.Products.{field_made}
use Rattle.products.proofs.fields_made.Given as goal

abbrev pub invariant-loop-j : goal.invariant-loop-j
invariant-loop-j l = record {
  eight : length l.made ≡ 8;
  made : (i : ℕ) → i < l.j → get_or l.made i datum0 ≡ field_made l.vars l.a.count i (field_at l.a i);
  unset : (i : ℕ) → l.j ≤ i → get_or l.made i datum0 ≡ datum0;
}
