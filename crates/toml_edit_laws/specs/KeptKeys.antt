-- The kept key of a path, as normal texts have it, and the mentions that the slots of a tree are
-- kept from, are the same.
use Rattle.std.specs.Prelude.{◌≡◌, true, List, [], ◌∷◌, ◌++◌, Some}
use Rattle.std.specs.List.{AllByRecursion}
use Rattle.toml_edit_model.specs.Syntax.{Document}
use Rattle.toml_edit_model.specs.Paths.{Path, Mention, Source, all_mentions}
use Rattle.toml_edit_model.specs.Accepted.{is_accepted}
use Rattle.toml_edit_model.specs.Kept.{kept_mention}
use Rattle.toml_edit_model.specs.TableMentions.{under, kept}

-- what is mentioned below a path, from there on
abbrev pub under_path : {S : Type 0} → Path → List (Mention S) → List (Mention S)
under_path [] ms = ms
under_path (s ∷ p) ms = under_path p (under s ms)

-- the slot's mention, as the table at a path sees it, is the kept mention of the slot's whole path
pub record IsKeptOf (ms : List (Mention Source)) (p : Path) (m : Mention Source) : Type 0 where
  pub mention : Mention Source
  pub kept : kept_mention ms (p ++ m.path) ≡ Some mention
  pub segment : mention.segment ≡ m.segment
  pub source : mention.source ≡ m.source

-- So it is for each slot of each table of an accepted document.
abbrev pub KeptKeys : Type 0
KeptKeys =
    (d : Document) → is_accepted d ≡ true → (p : Path)
    → AllByRecursion (IsKeptOf (all_mentions d) p) (kept (under_path p (all_mentions d)))
