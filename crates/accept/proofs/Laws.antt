-- A net in range is accepted exactly when the verdict is that it is (`accepted_verdict`).
-- Assumes nothing.
use Rattle.std.specs.Prelude.{◌≡◌, ◌↔◌, true, Ok}
use Rattle.std.proofs.Common.{subst}
use Rattle.laws.specs.Choice.{and_left, and_right, and_both}
use Rattle.laws.specs.Checks.{all}
use Rattle.names.specs.Names.{key_count, locality_count}
use Rattle.images.specs.Net.{net_in_range}
use Rattle.images.specs.Shape.{ShapedNet}
use Rattle.images.specs.declared.Script.{Script}
use Rattle.images.specs.declared.Net as Images
use Rattle.nets.specs.Net.{Net}
use Rattle.nets.specs.Accepted.{Accepted}
use Rattle.nets.specs.Accepting.{formed, once_each, tuples_right, localities_right, roots_right, accepted}
use Rattle.rules.specs.Instance.{rules_of}
use Rattle.rules.specs.Same.{same_body, is_accepted, accepted_is_tested}
use Rattle.rules.specs.View.{view, beyond}
use Rattle.accept.specs.Verdict.{all_agree, verdict, verdict_of}
use Rattle.accept.specs.Laws.{Says, first_of, verdict_says}
use Rattle.accept.specs.Forms.{net_formed_lem}

-- ---- acceptance

module _ (s : Script) (n : Net (rules_of s)) where
  accepted_all : all key_count (λ k. formed same_body (n.slot k)) ≡ true → Says s n (Ok tt) → is_accepted s n ≡ true
  unfolding accepted all_agree
  accepted_all forms (a, o, t, l, r, c) =
      and_both (all key_count (λ k. formed same_body (n.slot k))) _ forms
      (and_both (all_agree s n) _ a
      (and_both (once_each locality_count n) _ o
      (and_both (tuples_right n) _ t (and_both (localities_right locality_count n) _ l (and_both (roots_right n) _ r c)))))

  all_accepted : is_accepted s n ≡ true → verdict s n ≡ Ok tt
  unfolding accepted all_agree verdict
  all_accepted h =
      let h₁ = and_right (all key_count (λ k. formed same_body (n.slot k))) _ h in
      let h₂ = and_right (all_agree s n) _ h₁ in
      let h₃ = and_right (once_each locality_count n) _ h₂ in
      let h₄ = and_right (tuples_right n) _ h₃ in
      let h₅ = and_right (localities_right locality_count n) _ h₄ in
      let a = and_left (all_agree s n) _ h₁ in
      let o = and_left (once_each locality_count n) _ h₂ in
      let t = and_left (tuples_right n) _ h₃ in
      let l = and_left (localities_right locality_count n) _ h₄ in
      let r = and_left (roots_right n) _ h₅ in
      let c = and_right (roots_right n) _ h₅ in
      λ i. first_of (a i) (o i) (t i) (l i) (r i) (c i)

-- the net of an image in range is accepted exactly when the verdict on it is
pub accepted_verdict : (s : Script) (n : Images.Net) → ShapedNet n → net_in_range n ≡ true → (verdict_of s n ≡ Ok tt) ↔ Accepted (view s n)
accepted_verdict s n v range =
    let tested = accepted_is_tested s (view s n) (beyond s n) in (
      λ h. tested.0 (accepted_all s (view s n) (net_formed_lem s n v range) (subst (Says s (view s n)) h (verdict_says s (view s n)))),
      λ ok. all_accepted s (view s n) (tested.1 ok),
    )
