-- The keys down to a table are the kept ones of the paths on the way, and so is the path of its header in the normal text.
use Rattle.std.proofs.Common.{◌≡◌, refl, sym, ◌∙◌, ap, subst, ℕ, zero, suc, List, [], ◌∷◌, ◌++◌, append_assoc, Some}
use Rattle.std.specs.Prelude.{map, unwrap_or}
use Rattle.toml_edit_model.specs.Mode.{Mode}
use Rattle.toml_edit_model.specs.Text.{Text, one}
use Rattle.toml_edit_model.specs.Syntax.{Segment}
use Rattle.toml_edit_model.specs.Paths.{at_key, at_element, Path, to_key, to_element, Mention, Source, mention_of, next_start, elements_at}
use Rattle.toml_edit_model.specs.Paths.{in_last, passing_role, header_mentions, header_path}
use Rattle.toml_edit_model.specs.Tree.{Key}
use Rattle.toml_edit_laws.proofs.mentions.KeptPaths.{kept_in, key_segment}
use Rattle.toml_edit_model.specs.Roles.{Role}
use Rattle.toml_edit_model.specs.Kept.{kept_segment}

-- the path of a header from a path on
abbrev last_steps : ℕ → Path → Path
last_steps zero p = p
last_steps (suc n) p = at_element n ∷ p

abbrev pub header_steps : List Path → Path → List Segment → Path
header_steps arrays p [] = []
header_steps arrays p (s ∷ []) = one (at_key s.key)
header_steps arrays p (s ∷ r ∷ rest) =
    at_key s.key ∷ last_steps (elements_at arrays (to_key p s.key))
    (header_steps arrays (in_last (elements_at arrays (to_key p s.key)) (to_key p s.key)) (r ∷ rest))

last-steps : (n : ℕ) (q p : Path) → in_last n q ++ p ≡ q ++ last_steps n p
last-steps zero q p = refl
last-steps (suc n) q p = append_assoc q (one (at_element n)) p

pub header-steps : (arrays : List Path) (p : Path) (ss : List Segment) → header_path arrays p ss ≡ p ++ header_steps arrays p ss
header-steps arrays p [] = sym (append-none p)
  where
    append-none : (q : Path) → q ++ [] ≡ q
    append-none [] = refl
    append-none (s ∷ q) = ap (λ r. s ∷ r) (append-none q)
header-steps arrays p (s ∷ []) = refl
header-steps arrays p (s ∷ r ∷ rest) =
    let here : Path = to_key p s.key in
    let n : ℕ = elements_at arrays here in
    header-steps arrays (in_last n here) (r ∷ rest)
    ∙ last-steps n here (header_steps arrays (in_last n here) (r ∷ rest))
    ∙ append_assoc p (one (at_key s.key)) (last_steps n (header_steps arrays (in_last n here) (r ∷ rest)))

module _ (mode : Mode) where
  -- the keys are those kept on the way down a path, from another on
  abbrev pub AreAlong : List (Mention Source) → Path → Path → List Key → Type 0
  AreAlong all q [] [] = Unit {0}
  AreAlong all q [] (key ∷ ks) = ⊥
  AreAlong all q (at_key k ∷ p) [] = ⊥
  AreAlong all q (at_key k ∷ p) (key ∷ ks) = (kept_in all (to_key q k) ≡ Some (key_segment mode key)) × AreAlong all (to_key q k) p ks
  AreAlong all q (at_element i ∷ p) ks = AreAlong all (to_element q i) p ks

  pub along-key : (all : List (Mention Source)) (q p : Path) (ks : List Key) (k : Text) (key : Key) → AreAlong all q p ks
      → kept_in all (to_key (q ++ p) k) ≡ Some (key_segment mode key) → AreAlong all q (p ++ one (at_key k)) (ks ++ one key)
  along-key all q [] [] k key h e = (subst (λ r. kept_in all (to_key r k) ≡ Some (key_segment mode key)) (append-none q) e, tt)
    where
      append-none : (q : Path) → q ++ [] ≡ q
      append-none [] = refl
      append-none (s ∷ q) = ap (λ r. s ∷ r) (append-none q)
  along-key all q [] (x ∷ ks) k key h e = absurd h
  along-key all q (at_key l ∷ p) [] k key h e = absurd h
  along-key all q (at_key l ∷ p) (x ∷ ks) k key h e = (
    h.0,
    along-key all (to_key q l) p ks k key h.1 (subst (λ r. kept_in all (to_key r k)
        ≡ Some (key_segment mode key)) (sym (append_assoc q (one (at_key l)) p)) e),
  )
  along-key all q (at_element i ∷ p) ks k key h e =
      along-key all (to_element q i) p ks k key h (subst (λ r. kept_in all (to_key r k)
      ≡ Some (key_segment mode key)) (sym (append_assoc q (one (at_element i)) p)) e)

  pub along-element : (all : List (Mention Source)) (q p : Path) (ks : List Key) (i : ℕ) → AreAlong all q p ks
      → AreAlong all q (p ++ one (at_element i)) ks
  along-element all q [] [] i h = tt
  along-element all q [] (x ∷ ks) i h = absurd h
  along-element all q (at_key l ∷ p) [] i h = absurd h
  along-element all q (at_key l ∷ p) (x ∷ ks) i h = (h.0, along-element all (to_key q l) p ks i h.1)
  along-element all q (at_element j ∷ p) ks i h = along-element all (to_element q j) p ks i h

  pub element-along : (all : List (Mention Source)) (q p : Path) (ks : List Key) (i : ℕ) → AreAlong all q (p ++ one (at_element i)) ks
      → AreAlong all q p ks
  element-along all q [] [] i h = tt
  element-along all q [] (x ∷ ks) i h = absurd h
  element-along all q (at_key l ∷ p) [] i h = absurd h
  element-along all q (at_key l ∷ p) (x ∷ ks) i h = (h.0, element-along all (to_key q l) p ks i h.1)
  element-along all q (at_element j ∷ p) ks i h = element-along all (to_element q j) p ks i h

  -- ---- headers

  along-last : (all : List (Mention Source)) (n : ℕ) (q p : Path) (ks : List Key) → AreAlong all q (last_steps n p) ks
      → AreAlong all (in_last n q) p ks
  along-last all zero q p ks h = h
  along-last all (suc n) q p ks h = h

  kept-there : (all : List (Mention Source)) (source : Source) (start : ℕ) (p : Path) (role : Role) (s : Segment) (key : Key)
      → kept_in all (to_key p s.key) ≡ Some (key_segment mode key) → kept_segment all (mention_of source start (to_key p s.key) role s)
      ≡ key_segment mode key
  kept-there all source start p role s key h = ap (λ o. unwrap_or o s) h

  pub header-along : (all : List (Mention Source)) (source : Source) (arrays : List Path) (role : Role) (start : ℕ) (p : Path)
      (ss : List Segment) (ks : List Key)
      → AreAlong all p (header_steps arrays p ss) ks → map (kept_segment all) (header_mentions source arrays role start p ss)
      ≡ map (key_segment mode) ks
  header-along all source arrays role start p [] [] h = refl
  header-along all source arrays role start p [] (k ∷ ks) h = absurd h
  header-along all source arrays role start p (s ∷ []) [] h = absurd h
  header-along all source arrays role start p (s ∷ []) (k ∷ []) h = ap one (kept-there all source start p role s k h.0)
  header-along all source arrays role start p (s ∷ []) (k ∷ l ∷ ks) h = absurd h.1
  header-along all source arrays role start p (s ∷ r ∷ rest) [] h = absurd h
  header-along all source arrays role start p (s ∷ r ∷ rest) (k ∷ ks) h =
      let here : Path = to_key p s.key in
      let n : ℕ = elements_at arrays here in
      ap (λ t. t ∷ map (kept_segment all) (header_mentions source arrays role (next_start start s) (in_last n here) (r ∷ rest)))
      (kept-there all source start p (passing_role n) s k h.0)
      ∙ ap (λ ts. key_segment mode k ∷ ts)
      (header-along all source arrays role (next_start start s) (in_last n here) (r ∷ rest) ks
      (along-last all n here (header_steps arrays (in_last n here) (r ∷ rest)) ks h.1))
