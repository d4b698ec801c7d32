-- The tables along a path that goes on by a key or an element.
use Rattle.toml_edit_model.specs.Paths.{to_element, at_element, Path, to_key, at_key}
use Rattle.std.proofs.Common.{append_assoc, append-nil, ap, sym, refl, ◌≡◌, ◌∙◌, ◌∷◌, ◌++◌, ℕ, []}
use Rattle.toml_edit_model.specs.Meaning.{fact, tables_along, a_table}
use Rattle.toml_edit_model.specs.Text.{Text}

-- a key adds its table
pub tables-key_from : (q p : Path) (k : Text) → tables_along q (to_key p k) ≡ tables_along q p ++ (fact (to_key (q ++ p) k) a_table ∷ [])
tables-key_from q [] k = ap (λ r. fact (to_key r k) a_table ∷ []) (sym (append-nil q))
tables-key_from q (at_element n ∷ p) k =
    tables-key_from (to_element q n) p k ∙ ap (λ r. tables_along (to_element q n) p
    ++ (fact (to_key r k) a_table ∷ [])) (append_assoc q (at_element n ∷ []) p)
tables-key_from q (at_key l ∷ []) k = refl
tables-key_from q (at_key l ∷ at_element n ∷ p) k =
    tables-key_from (to_element (to_key q l) n) p k
    ∙ ap (λ r. tables_along (to_element (to_key q l) n) p ++ (fact (to_key r k) a_table ∷ []))
    (append_assoc (to_key q l) (at_element n ∷ []) p ∙ append_assoc q (at_key l ∷ []) (at_element n ∷ p))
tables-key_from q (at_key l ∷ at_key m ∷ p) k =
    ap (λ fs. fact (to_key q l) a_table ∷ fs)
    (tables-key_from (to_key q l) (at_key m ∷ p) k
    ∙ ap (λ r. tables_along (to_key q l) (at_key m ∷ p)
    ++ (fact (to_key r k) a_table ∷ [])) (append_assoc q (at_key l ∷ []) (at_key m ∷ p)))

pub tables-key : (p : Path) (k : Text) → tables_along [] (to_key p k) ≡ tables_along [] p ++ (fact (to_key p k) a_table ∷ [])
tables-key p k = tables-key_from [] p k

-- an element of an array adds none
pub tables-element_from : (q p : Path) (k : Text) (n : ℕ) → tables_along q (p ++ (at_key k ∷ at_element n ∷ [])) ≡ tables_along q p
tables-element_from q [] k n = refl
tables-element_from q (at_element m ∷ p) k n = tables-element_from (to_element q m) p k n
tables-element_from q (at_key l ∷ []) k n = refl
tables-element_from q (at_key l ∷ at_element m ∷ p) k n = tables-element_from (to_element (to_key q l) m) p k n
tables-element_from q (at_key l ∷ at_key m ∷ p) k n =
    ap (λ fs. fact (to_key q l) a_table ∷ fs) (tables-element_from (to_key q l) (at_key m ∷ p) k n)

pub tables-element : (p : Path) (k : Text) (n : ℕ) → tables_along [] (to_element (to_key p k) n) ≡ tables_along [] p
tables-element p k n = ap (tables_along []) (append_assoc p (at_key k ∷ []) (at_element n ∷ [])) ∙ tables-element_from [] p k n
