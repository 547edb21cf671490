-- The code of the questions against their definitions: each is refused with the answer of the images, or answered.
-- In order: the finder (`find_no`, `find_yes`), the least free key (`key_no`, `key_yes`), the
-- least absent locality (`locality_no`, `locality_yes`).
-- Assumes nothing.
use Rattle.std.specs.Prelude.{ℕ, ◌≡◌, true, false, List}
use Rattle.std.proofs.Common.{sym, ◌∙◌}
use Rattle.std.proofs.Math.Path.{ap}
use Rattle.names.specs.Names.{none, key, locality}
use Rattle.names.specs.declared.Key.{Key}
use Rattle.names.specs.declared.Locality.{Locality}
use Rattle.names.specs.declared.Localities.{Localities}
use Rattle.images.specs.Read.{script_of, net_of}
use Rattle.images.specs.declared.Net.{Net}
use Rattle.requests.specs.Requests.{is_done}
use Rattle.requests.specs.declared.Answer.{Answer}
use Rattle.finder.specs.Finder.{found, found_of}
use Rattle.finder.specs.Helpers.{free_key, absent_locality}
use Rattle.finder.specs.declared.Found.{Found}
use Rattle.machine.specs.Calls.{image_answer, GoodImages}
use Rattle.machine.specs.Asks.{found_in, free_key_in, free_locality_in}
use Rattle.machine.specs.OnBytes.{script_of_lem, net_of_lem}

module _ (script net : List ℕ) (a : Answer) (is : a ≡ image_answer script net) where
  module _ (h : is_done a ≡ false) where
    refused : is_done (image_answer script net) ≡ false
    refused = sym (ap is_done is) ∙ h

    pub find_no : (k : ℕ) (o : Found Key) → o ≡ found a (key none) → o ≡ found_in script net k
    unfolding found_in
    find_no k o e = rw refused (e ∙ ap (λ (b : Answer). found b (key none)) is)

    pub key_no : (o : Found Key) → o ≡ found a (key none) → o ≡ free_key_in script net
    unfolding free_key_in
    key_no o e = rw refused (e ∙ ap (λ (b : Answer). found b (key none)) is)

    pub locality_no : (o : Found Locality) → o ≡ found a (locality none) → o ≡ free_locality_in script net
    unfolding free_locality_in
    locality_no o e = rw refused (e ∙ ap (λ (b : Answer). found b (locality none)) is)

  module _ (h : is_done a ≡ true) where
    good : GoodImages script net
    good = sym (ap is_done is) ∙ h

    pub find_yes : (k : ℕ) (o : Found Key) → o ≡ found_of (script_of script) (net_of net) (key k) → o ≡ found_in script net k
    unfolding found_in
    find_yes k o e = rw good (e ∙ (λ i. found_of (script_of_lem script net good i) (net_of_lem script net good i) (key k)))

    pub key_yes : (k : Key) → k ≡ free_key (net_of net) → found Answer.Done k ≡ free_key_in script net
    unfolding free_key_in
    key_yes k e = rw good (ap (found Answer.Done) (e ∙ ap free_key (net_of_lem script net good)))

    pub locality_yes : (present : Localities) → present ≡ (net_of net).present → (l : Locality) → l ≡ absent_locality present
        → found Answer.Done l ≡ free_locality_in script net
    unfolding free_locality_in
    locality_yes present is-p l e =
        rw good (ap (found Answer.Done) (e ∙ ap absent_locality (is-p ∙ ap (λ (n : Net). n.present) (net_of_lem script net good))))
