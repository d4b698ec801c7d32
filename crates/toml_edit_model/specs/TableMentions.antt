-- The mentions as one table sees them, and which of them its slots are kept from (TOML 1.1.0,
-- "Keys" and "Table").
use Rattle.std.specs.Prelude.{Bool, true, false, not, ◌&&◌, ◌||◌, if◌then◌else◌, List, [], ◌∷◌, ◌++◌, map, filter}
use Rattle.std.specs.List.{list_any}
use Rattle.toml_edit_model.specs.Text.{is_empty}
use Rattle.toml_edit_model.specs.Paths.{Step, at_key, Path, same_step, same_path, Mention}
use Rattle.toml_edit_model.specs.Roles.{Role, is_header_role, is_array_role, any_role}

-- a mention whose path begins with the step, with its path from there
abbrev pub inside : {S : Type 0} → Step → Mention S → Path → List (Mention S)
inside s m [] = []
inside s m (t ∷ p) = if same_step t s then record m { path = p } ∷ [] else []

abbrev pub under : {S : Type 0} → Step → List (Mention S) → List (Mention S)
under s [] = []
under s (m ∷ ms) = inside s m m.path ++ under s ms

-- the mentions of the table or array itself, and their roles
abbrev pub own : {S : Type 0} → List (Mention S) → List (Mention S)
own ms = filter (λ m. is_empty m.path) ms

abbrev pub roles : {S : Type 0} → List (Mention S) → List Role
roles ms = map (λ m. m.role) (own ms)

-- the headers in double brackets of the array itself
abbrev pub array_headers : {S : Type 0} → List (Mention S) → List (Mention S)
array_headers ms = filter (λ m. is_array_role m.role) (own ms)

-- some mention gives the path such a role
abbrev pub some_at : {S : Type 0} → (Role → Bool) → Path → List (Mention S) → Bool
some_at test p ms = list_any (λ m. same_path m.path p && test m.role) ms

abbrev pub is_single : Path → Bool
is_single (at_key k ∷ []) = true
is_single _ = false

-- A slot is where its plain header is, else where its key is first mentioned: that mention is the
-- one whose key is kept.
abbrev pub is_slot : {S : Type 0} → List (Mention S) → Mention S → List (Mention S) → Bool
is_slot before m after =
    is_single m.path
    && (is_header_role m.role || (not (some_at any_role m.path before) && not (some_at is_header_role m.path after)))

abbrev pub kept_from : {S : Type 0} → List (Mention S) → List (Mention S) → List (Mention S)
kept_from before [] = []
kept_from before (m ∷ ms) =
    if is_slot before m ms then m ∷ kept_from (before ++ (m ∷ [])) ms
    else kept_from (before ++ (m ∷ [])) ms

-- the slots of a table, by the mentions that their keys are kept from
abbrev pub kept : {S : Type 0} → List (Mention S) → List (Mention S)
kept ms = kept_from [] ms
