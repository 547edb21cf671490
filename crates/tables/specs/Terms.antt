-- The terms from which the two tables are written: what stands in a net, and a net with something else at a key.
--
-- In order: what stands at a key (`Holds`, `memory`, `Free`); a net with one slot changed (`put`), with one locality more (`with_locality`) or less
-- (`without_locality`).
-- Assumes nothing.
use Rattle.std.specs.Prelude.{◌≡◌, not, ◌&&◌, ◌||◌, ℕ, ◌<◌, eqb}
use Rattle.laws.specs.Choice.{pick}
use Rattle.nets.specs.Rules.{Rules}
use Rattle.nets.specs.Net.{Kind, free, past, Slot, Net}

module _ {R : Rules} where
  -- ---- what stands in a net

  -- "k : P" or "k : ⟨et⟩": at the key k stands a record of this kind with these contents, its locality among them
  pub record Holds (n : Net R) (k : ℕ) (c : Kind) (b : R.Body) : Type 0 where
    pub kind : (n.slot k).kind ≡ c
    pub body : (n.slot k).body ≡ b

  -- "[k : a.P; ξ]": the record of a past process with contents b, and ξ: the keys of its continuation and of what it made besides, the key of
  -- the tuple that it used, the locality that it made, each 255 where there is none. That it is k's memory is that it stands at k.
  abbrev pub memory : R.Body → ℕ → ℕ → ℕ → ℕ → Slot R
  memory b k' k'' h l = record { kind = past; body = b; first = k'; second = k''; used = h; place = l }

  -- "(ν k)": k is a key, and nothing stands there
  pub record Free (n : Net R) (k : ℕ) : Type 0 where
    pub is_key : k < R.keys
    pub is_free_lem : (n.slot k).kind ≡ free

  -- ---- a net with something else in it

  -- n, with s at the key k
  abbrev pub put : ℕ → Slot R → Net R → Net R
  put k s n = record { present = n.present; slot = λ j. pick (eqb j k) s (n.slot j) }

  -- n, with the locality l present, or absent
  abbrev pub with_locality : ℕ → Net R → Net R
  with_locality l n = record { present = λ m. n.present m || eqb l m; slot = n.slot }

  abbrev pub without_locality : ℕ → Net R → Net R
  without_locality l n = record { present = λ m. n.present m && not (eqb l m); slot = n.slot }
