-- The mentions of a header one step further down.
use Rattle.std.proofs.Common.{◌≡◌, refl, sym, ◌∙◌, ap, ℕ, zero, suc, Bool, List, [], ◌∷◌, ◌++◌, inl, inr, Option}
use Rattle.std.specs.Prelude.{if◌then◌else◌}
use Rattle.std.proofs.lemmas.Bool.{cases_Bool}
use Rattle.toml_edit_model.specs.Mode.{Mode}
use Rattle.toml_edit_model.specs.Syntax.{Segment}
use Rattle.toml_edit_model.specs.Paths.{Step, at_key, at_element, Path, same_step, same_path, to_key, Mention, Source, mention_of}
use Rattle.toml_edit_model.specs.Paths.{next_start, elements_at, in_last, passing_role, header_mentions, header_path}
use Rattle.toml_edit_model.specs.Tree.{Slots}
use Rattle.toml_edit_laws.specs.TableTree.{pass_below, add_header}
use Rattle.toml_edit_laws.specs.InlineTree.{node_at}
use Rattle.toml_edit_laws.proofs.mentions.GatherLaws.{all_deeper, own-deeper}
use Rattle.toml_edit_model.specs.Roles.{Role}
use Rattle.toml_edit_model.specs.TableMentions.{own}

-- ---- numbered paths from one step on

-- the paths that begin with a step, from there
abbrev pub path_inside : Step → Path → List Path
path_inside s [] = []
path_inside s (t ∷ p) = if same_step s t then p ∷ [] else []

abbrev pub paths_under : Step → List Path → List Path
paths_under s [] = []
paths_under s (p ∷ paths) = path_inside s p ++ paths_under s paths

-- an array has as many elements
pub elements-under : (s : Step) (p : Path) (paths : List Path) → elements_at (paths_under s paths) p ≡ elements_at paths (s ∷ p)
elements-under s p [] = refl
elements-under s p (q ∷ paths) = by_path q (elements-under s p paths)
  where
    by_path : (q : Path) → elements_at (paths_under s paths) p ≡ elements_at paths (s ∷ p)
        → elements_at (path_inside s q ++ paths_under s paths) p ≡ elements_at (q ∷ paths) (s ∷ p)
    by_path [] h = h
    by_path (t ∷ q) h =
        elim (cases_Bool (same_step s t)) [
          | inl e ↦
              rw e
              (elim (cases_Bool (same_path p q)) [
                | inl g ↦ rw g (ap suc h)
                | inr g ↦ rw g h
              ])
          | inr e ↦ rw e h
        ]

-- ---- a header's mentions from one step on

pub header-deeper : {S : Type 0} (source : S) (paths : List Path) (role : Role) (start : ℕ) (s : Step) (p : Path) (segments : List Segment)
    → header_mentions source paths role start (s ∷ p) segments
    ≡ all_deeper s (header_mentions source (paths_under s paths) role start p segments)
header-deeper source paths role start s p [] = refl
header-deeper source paths role start s p (g ∷ []) = refl
header-deeper {S} source paths role start s p (g ∷ h ∷ rest) =
    ap from_count (sym (elements-under s (to_key p g.key) paths))
    ∙ by_count (elements_at (paths_under s paths) (to_key p g.key)) (λ q. header-deeper source paths role (next_start start g) s q (h
    ∷ rest))
  where
    from_count : ℕ → List (Mention S)
    from_count n =
        mention_of source start (s ∷ to_key p g.key) (passing_role n) g
        ∷ header_mentions source paths role (next_start start g) (in_last n (s ∷ to_key p g.key)) (h ∷ rest)

    below : Path → List (Mention S)
    below q = header_mentions source (paths_under s paths) role (next_start start g) q (h ∷ rest)

    by_count : (n : ℕ)
        → ((q : Path) → header_mentions source paths role (next_start start g) (s ∷ q) (h ∷ rest) ≡ all_deeper s (below q))
        → from_count n ≡ all_deeper s (mention_of source start (to_key p g.key) (passing_role n) g ∷ below (in_last n (to_key p g.key)))
    by_count zero ih = ap (λ ms. mention_of source start (s ∷ to_key p g.key) (passing_role zero) g ∷ ms) (ih (to_key p g.key))
    by_count (suc n) ih =
        ap (λ ms. mention_of source start (s ∷ to_key p g.key) (passing_role (suc n)) g ∷ ms) (ih (in_last (suc n) (to_key p g.key)))

-- nor does its path differ
pub path-deeper : (paths : List Path) (s : Step) (p : Path) (segments : List Segment) → header_path paths (s ∷ p) segments ≡ s
    ∷ header_path (paths_under s paths) p segments
path-deeper paths s p [] = refl
path-deeper paths s p (g ∷ []) = refl
path-deeper paths s p (g ∷ h ∷ rest) =
    ap from_count (sym (elements-under s (to_key p g.key) paths))
    ∙ by_count (elements_at (paths_under s paths) (to_key p g.key)) (λ q. path-deeper paths s q (h ∷ rest))
  where
    from_count : ℕ → Path
    from_count n = header_path paths (in_last n (s ∷ to_key p g.key)) (h ∷ rest)

    by_count : (n : ℕ) → ((q : Path) → header_path paths (s ∷ q) (h ∷ rest) ≡ s ∷ header_path (paths_under s paths) q (h ∷ rest))
        → from_count n ≡ s ∷ header_path (paths_under s paths) (in_last n (to_key p g.key)) (h ∷ rest)
    by_count zero ih = ih (to_key p g.key)
    by_count (suc n) ih = ih (in_last (suc n) (to_key p g.key))

-- no mention of a header is of the table that its path begins in
pub own-header : {S : Type 0} (source : S) (paths : List Path) (role : Role) (start : ℕ) (segments : List Segment)
    → own (header_mentions source paths role start [] segments) ≡ []
own-header source paths role start [] = refl
own-header source paths role start (g ∷ []) = refl
own-header {S} source paths role start (g ∷ h ∷ rest) = by_count (elements_at paths (at_key g.key ∷ []))
  where
    by_count : (n : ℕ) → own (header_mentions source paths role (next_start start g) (in_last n (at_key g.key ∷ [])) (h ∷ rest)) ≡ []
    by_count zero =
        ap own (header-deeper source paths role (next_start start g) (at_key g.key) [] (h ∷ rest))
        ∙ own-deeper (at_key g.key) (header_mentions source (paths_under (at_key g.key) paths) role (next_start start g) [] (h ∷ rest))
    by_count (suc n) =
        ap own (header-deeper source paths role (next_start start g) (at_key g.key) (at_element n ∷ []) (h ∷ rest))
        ∙ own-deeper (at_key g.key) (header_mentions source (paths_under (at_key g.key) paths) role (next_start start g) (at_element n
        ∷ []) (h ∷ rest))

-- ---- a header is added by its keys and not by its path

same_functions : {A B : Type 0} (f g : A → B) → ((x : A) → f x ≡ g x) → f ≡ g
same_functions f g h = λ i. λ x. h x i

module _ (mode : Mode) where
  pub add-deeper : (is_array : Bool) (s : Step) (ms : List (Mention Source)) → add_header mode is_array (all_deeper s ms)
      ≡ add_header mode is_array ms
  add-deeper is_array s [] = refl
  add-deeper is_array s (m ∷ []) = refl
  add-deeper is_array s (m ∷ r ∷ rest) =
      same_functions (add_header mode is_array (all_deeper s (m ∷ r ∷ rest))) (add_header mode is_array (m ∷ r ∷ rest))
      (λ ss. ap (λ (change : Slots → Option Slots). pass_below mode m change ss (node_at m.segment.key ss)) (add-deeper is_array s (r
      ∷ rest)))
