-- What a caller knows of reading. For every byte string: it answers a value exactly when the string is the value's writing and the value
-- is in range; it refuses exactly when the string is the writing of no value in range. So writing and then reading gives the value
-- again, reading and then writing gives the bytes again, and no two strings read to one value.
-- Said once for both images (`reads`, `refuses`, `apart`, `gives_shaped`), then of each.
-- Assumes nothing.
use Rattle.std.specs.Prelude.{◌≡◌, refl, ◌↔◌, List, Bool, true, ℕ, Option, Some, None}
use Rattle.std.proofs.Common.{ap, sym, ◌∙◌, subst}
use Rattle.laws.specs.Choice.{pick, cases}
use Rattle.laws.specs.Words.{Bytes}
use Rattle.images.specs.Script.{script_bytes, script_in_range}
use Rattle.images.specs.Net.{net_bytes, net_in_range}
use Rattle.images.specs.Read.{script_of, script_formed, read_script, net_of, net_formed, read_net}
use Rattle.images.specs.Shape.{ShapedScript, ShapedNet}
use Rattle.images.specs.Round.{script_again, script_formed_lem, script_back, script_in_range_lem, shaped_script, net_again, net_formed_lem, net_back, net_in_range_lem, shaped_net}
use Rattle.images.specs.declared.Script.{Script}
use Rattle.images.specs.declared.Net.{Net}

-- what a kind of image is made of: A its values
record Image (A : Type 0) : Type 1 where
  write : A → List ℕ
  in_range : A → Bool
  Shaped : A → Type 0
  read : List ℕ → Option A
  of : List ℕ → A
  formed : List ℕ → Bool
  by_form : (b : List ℕ) → read b ≡ pick (formed b) (Some (of b)) None
  again : (v : A) → Shaped v → in_range v ≡ true → of (write v) ≡ v
  formed_write : (v : A) → Shaped v → in_range v ≡ true → formed (write v) ≡ true
  back : (b : List ℕ) → Bytes b → formed b ≡ true → write (of b) ≡ b
  in_range_lem : (b : List ℕ) → Bytes b → formed b ≡ true → in_range (of b) ≡ true
  shaped : (b : List ℕ) → Bytes b → Shaped (of b)

module _ {A : Type 0} (I : Image A) where
  -- an answer with a value has the form, and the value is what the bytes hold
  has_form : (b : List ℕ) (v : A) → I.read b ≡ Some v → (I.formed b ≡ true) × (I.of b ≡ v)
  has_form b v e =
      cases (I.formed b)
      (λ f.
      let g : Some (I.of b) ≡ Some v = sym (rw f at (I.by_form b)) ∙ e in
      (f, cc))
      (λ f.
      let n : None ≡ Some v = sym (rw f at (I.by_form b)) ∙ e in
      absurd cc)

  reads : (b : List ℕ) (v : A) → Bytes b → I.Shaped v → (I.read b ≡ Some v) ↔ ((b ≡ I.write v) × (I.in_range v ≡ true))
  reads b v h w = (there, home)
    where
      there : I.read b ≡ Some v → (b ≡ I.write v) × (I.in_range v ≡ true)
      there e =
          let (f, o) = has_form b v e in
          (sym (I.back b h f) ∙ ap I.write o, ap I.in_range (sym o) ∙ I.in_range_lem b h f)

      home : (b ≡ I.write v) × (I.in_range v ≡ true) → I.read b ≡ Some v
      home q = I.by_form b ∙ rw (q.0, I.formed_write v w q.1, I.again v w q.1)

  refuses : (b : List ℕ) → Bytes b → (I.read b ≡ None) ↔ ((v : A) → I.Shaped v → I.in_range v ≡ true → b ≡ I.write v → ⊥)
  refuses b h = (there, home)
    where
      there : I.read b ≡ None → (v : A) → I.Shaped v → I.in_range v ≡ true → b ≡ I.write v → ⊥
      there e v w r q =
          let n : None ≡ Some v = sym e ∙ (reads b v h w).1 (q, r) in
          cc

      home : ((v : A) → I.Shaped v → I.in_range v ≡ true → b ≡ I.write v → ⊥) → I.read b ≡ None
      home none =
          cases (I.formed b)
          (λ f. absurd (none (I.of b) (I.shaped b h) (I.in_range_lem b h f) (sym (I.back b h f))))
          (λ f. I.by_form b ∙ rw f)

  -- no two strings read to one value
  apart : (a b : List ℕ) (v : A) → Bytes a → Bytes b → I.read a ≡ Some v → I.read b ≡ Some v → a ≡ b
  apart a b v h g p q =
      let (f, o) = has_form a v p in
      let (f', o') = has_form b v q in
      sym (I.back a h f) ∙ ap I.write (o ∙ sym o') ∙ I.back b g f'

  -- what is read is a value of the code's types
  gives_shaped : (b : List ℕ) (v : A) → Bytes b → I.read b ≡ Some v → I.Shaped v
  gives_shaped b v h e = subst I.Shaped (has_form b v e).1 (I.shaped b h)

-- ---- the two images

script_by_form : (b : List ℕ) → read_script b ≡ pick (script_formed b) (Some (script_of b)) None
unfolding read_script
script_by_form b = refl

net_by_form : (b : List ℕ) → read_net b ≡ pick (net_formed b) (Some (net_of b)) None
unfolding read_net
net_by_form b = refl

abbrev script_image : Image Script
script_image =
    record {
      write = script_bytes;
      in_range = script_in_range;
      Shaped = ShapedScript;
      read = read_script;
      of = script_of;
      formed = script_formed;
      by_form = script_by_form;
      again = script_again;
      formed_write = script_formed_lem;
      back = script_back;
      in_range_lem = script_in_range_lem;
      shaped = shaped_script;
    }

abbrev net_image : Image Net
net_image =
    record {
      write = net_bytes;
      in_range = net_in_range;
      Shaped = ShapedNet;
      read = read_net;
      of = net_of;
      formed = net_formed;
      by_form = net_by_form;
      again = net_again;
      formed_write = net_formed_lem;
      back = net_back;
      in_range_lem = net_in_range_lem;
      shaped = shaped_net;
    }

-- ---- of a script

pub script_read : (b : List ℕ) (s : Script) → Bytes b → ShapedScript s → (read_script b ≡ Some s) ↔ ((b ≡ script_bytes s) × (script_in_range s ≡ true))
script_read = reads script_image

pub script_refused : (b : List ℕ) → Bytes b → (read_script b ≡ None) ↔ ((s : Script) → ShapedScript s → script_in_range s ≡ true → b ≡ script_bytes s → ⊥)
script_refused = refuses script_image

pub script_apart : (a b : List ℕ) (s : Script) → Bytes a → Bytes b → read_script a ≡ Some s → read_script b ≡ Some s → a ≡ b
script_apart = apart script_image

pub script_shaped : (b : List ℕ) (s : Script) → Bytes b → read_script b ≡ Some s → ShapedScript s
script_shaped = gives_shaped script_image

-- ---- of a net

pub net_read : (b : List ℕ) (n : Net) → Bytes b → ShapedNet n → (read_net b ≡ Some n) ↔ ((b ≡ net_bytes n) × (net_in_range n ≡ true))
net_read = reads net_image

pub net_refused : (b : List ℕ) → Bytes b → (read_net b ≡ None) ↔ ((n : Net) → ShapedNet n → net_in_range n ≡ true → b ≡ net_bytes n → ⊥)
net_refused = refuses net_image

pub net_apart : (a b : List ℕ) (n : Net) → Bytes a → Bytes b → read_net a ≡ Some n → read_net b ≡ Some n → a ≡ b
net_apart = apart net_image

pub net_shaped : (b : List ℕ) (n : Net) → Bytes b → read_net b ≡ Some n → ShapedNet n
net_shaped = gives_shaped net_image
