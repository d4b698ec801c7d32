-- The mentions of key lines and of headers are those of their paths.
use Rattle.std.proofs.Common.{◌≡◌, ℕ, Bool, true, false, List, [], ◌∷◌, refl}
use Rattle.std.specs.Prelude.{if◌then◌else◌}
use Rattle.toml_edit_model.specs.Roles.{Role, ends_path, extends, header_role, array_role}
use Rattle.toml_edit_model.specs.Syntax.{Segment, Header}
use Rattle.toml_edit_model.specs.Paths.{Path, Source, line_mentions, header_mentions, header_role_of, next_start, to_key}
use Rattle.toml_edit_laws.specs.AddPath.{AreMentionsOf}

pub line-mentions : (s : Source) (start : ℕ) (above : Path) (p : List Segment) → AreMentionsOf s start p (line_mentions s start above p)
line-mentions s start above [] = tt
line-mentions s start above (g ∷ []) = ((refl, refl, refl), refl, refl)
line-mentions s start above (g ∷ h ∷ p) =
    ((refl, refl, refl), refl, refl, line-mentions s (next_start start g) (to_key above g.key) (h ∷ p))

last-role : (s : Source) (role : Role) (start : ℕ) (above : Path) (p : List Segment) → ends_path role ≡ true → extends role ≡ false
    → AreMentionsOf s start p (header_mentions s [] role start above p)
last-role s role start above [] e f = tt
last-role s role start above (g ∷ []) e f = ((refl, refl, refl), e, f)
last-role s role start above (g ∷ h ∷ p) e f =
    ((refl, refl, refl), refl, refl, last-role s role (next_start start g) (to_key above g.key) (h ∷ p) e f)

-- those of a header without the numbers of elements in their paths
pub header-mentions : (s : Source) (h : Header) (start : ℕ) (above : Path) (p : List Segment)
    → AreMentionsOf s start p (header_mentions s [] (header_role_of h) start above p)
header-mentions s h start above p = by_array h.is_array
  where
    by_array : (x : Bool) → AreMentionsOf s start p (header_mentions s [] (if x then array_role else header_role) start above p)
    by_array true = last-role s array_role start above p refl refl
    by_array false = last-role s header_role start above p refl refl
