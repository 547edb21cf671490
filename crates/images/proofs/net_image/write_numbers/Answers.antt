use mathlib.Core.Path.{◌≡◌, refl, ◌∙◌, sym}
use mathlib.Core.List.{[]}
use Prim.Native.Nat.{◌+◌, ◌*◌, ◌≤◌}
use native.Mathlib.Omega.{arith}
use lib.ListN.{length, get_or}
use lib.Seq.{take_all}
use Rattle.laws.specs.Lists.{tab}
use Rattle.laws.specs.Parts.{flat, length_turn, front_turn}
use Rattle.laws.specs.Words.{word, length_bytes}
use Rattle.images.specs.Net.{datum0}
use Rattle.std.proofs.Common.{rules}
use Rattle.images.proofs.net_image.write_numbers.Goals as goal

pub loop-j-init : goal.loop-j-init
unfolding flat tab
loop-j-init c = (search rules, refl)

pub loop-j-preserved : goal.loop-j-preserved
loop-j-preserved c =
    let l = c.loop-j in
    let x = (get_or c.args.contents l.j datum0).number in
    let h : 4 * l.j + 4 ≤ length l.p = omega (arith, l.invariant.0) in
    let e : 4 * (l.j + 1) ≡ 4 * l.j + 4 = omega arith in (
      length_turn (4 * l.j) 4 l.p _ _ h c.write_word.ensures (length_bytes 4 x) ∙ l.invariant.0,
      rw e
          (front_turn (4 * l.j) 4 l.j (λ i. word (get_or c.args.contents i datum0).number) [] l.p _ h (length_bytes 4 x)
          c.write_word.ensures l.invariant.1),
    )

pub returns : goal.returns
returns c =
    let l = c.loop-j in
    let e : l.j ≡ 8 = omega arith in
    sym (take_all 32 l.p (omega (arith, l.invariant.0))) ∙ rw e at l.invariant.1
