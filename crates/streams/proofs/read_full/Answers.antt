-- A read more: what it put behind the bytes that were there follows them in the stream.
use Rattle.std.proofs.Common.{◌≡◌, ℕ, ◌+◌, ◌-◌, ◌≤◌, List, ◌++◌, rules, arith, length, take, sym, ap, ap₂, ◌∙◌, subst, le_refl, drop_at, length-take-le}
use Rattle.std.proofs.lemmas.Slice.{take-put_mid_below}
use Rattle.std.specs.Io.KnownBytes.{Consumes}
use Rattle.std.proofs.KnownBytes.{Consumes-trans}
use borrow.Rule.Slice.PartMut.{put_mid, post_of}
use lib.Seq.{take-add, take-append-le}
use Rattle.streams.proofs.read_full.Goals as goal

take-put_mid : (a k n : ℕ) (xs ys : List ℕ) → a ≤ length xs → n ≤ length ys → take a xs ++ take n ys ≡ take (a + n) (put_mid a k xs ys)
take-put_mid a k n xs ys within fits =
    let after = post_of a k xs in
    ap₂ (λ (l r : List ℕ). l ++ r) (sym (take-put_mid_below _ _ _ _ _ (le_refl _) within))
    (sym (take-append-le n ys after fits) ∙ ap (take n) (sym (drop_at (take a xs) (ys ++ after) a (length-take-le a xs within)))) ∙
    sym (take-add a n (put_mid a k xs ys))

pub loop-done-preserved : goal.loop-done-preserved
loop-done-preserved g c =
    let l = c.loop-done in
    record {
      within = search rules;
      same_room = search rules;
      bytes = subst (Consumes _ _) (take-put_mid l.done (length l.room - l.done) c.in_ok-n.n l.room c.read.new.buf l.invariant.within c.in_ok-n.ensures.bound.0)
          (Consumes-trans _ _ _ _ _ l.invariant.bytes c.in_ok-n.ensures.bytes.0);
    }
