-- Worked calls: which words are options, and how files are read.
use Rattle.std.specs.Prelude.{◌≡◌, refl, true, false, List, [], ◌∷◌, codes, Some, None}
use Rattle.toml_edit_model.specs.Text.{Text}
use Rattle.toml_edit_files.specs.Requests.{help_by, reading_in, shape_in}
use Rattle.toml_edit_files.specs.Split.{Words, has, last_of, split_words}
use Rattle.toml_edit_files.specs.declared.help.Topic.TheVariants as topics
use Rattle.toml_edit_files.specs.declared.words.Reading.{Reading}
use Rattle.toml_edit_items.specs.declared.shape.Shape.TheVariants as shapes

abbrev these : List (Text × Text) → List Text → Words
these os ws = record { options = os; operands = ws; pending = None; left = 0; ended = false }

-- an option may follow the path
raw-get : split_words topics.Get (codes "f" ∷ codes "a" ∷ codes "--raw" ∷ [])
    ≡ Some (these ((codes "--raw", []) ∷ []) (codes "f" ∷ codes "a" ∷ []))
raw-get = refl

-- what follows `--default` is its operand, also where it is written as an option
default-get : split_words topics.Get (codes "--default" ∷ codes "--raw" ∷ codes "f" ∷ codes "a" ∷ [])
    ≡ Some (these ((codes "--default", codes "--raw") ∷ []) (codes "f" ∷ codes "a" ∷ []))
default-get = refl

no-operand : split_words topics.Edit (codes "f" ∷ codes "--script" ∷ []) ≡ None
no-operand = refl

no-option : split_words topics.Get (codes "--row" ∷ codes "f" ∷ codes "a" ∷ []) ≡ None
no-option = refl

-- the words of an edit are no options, and those behind it may be
negative : split_words topics.Edit (codes "f" ∷ codes "set" ∷ codes "a" ∷ codes "-1" ∷ codes "--dry-run" ∷ [])
    ≡ Some (these ((codes "--dry-run", []) ∷ []) (codes "f" ∷ codes "set" ∷ codes "a" ∷ codes "-1" ∷ []))
negative = refl

-- a file of a name that is written as an option
ended : split_words topics.Check (codes "--" ∷ codes "-f" ∷ [])
    ≡ Some (record (these [] (codes "-f" ∷ [])) { ended = true })
ended = refl

-- standard input is no option
stream : split_words topics.Check (codes "-" ∷ []) ≡ Some (these [] (codes "-" ∷ []))
stream = refl

last-counts : last_of (codes "--output") ((codes "--output", codes "a") ∷ (codes "--force", []) ∷ (codes "--output", codes "b") ∷ [])
    ≡ Some (codes "b")
last-counts = refl

not-there : has (codes "--keys") ((codes "--check", []) ∷ []) ≡ false
not-there = refl

last-shape : shape_in shapes.Spelled ((codes "--lines", []) ∷ (codes "--raw", []) ∷ []) ≡ shapes.Raw
last-shape = refl

strict-get : reading_in (record { strict = false; normal = false }) (codes "strict" ∷ codes "get" ∷ codes "normal" ∷ [])
    ≡ (record { strict = true; normal = false }, codes "get" ∷ codes "normal" ∷ [])
strict-get = refl

two-topics : help_by (codes "get" ∷ codes "has" ∷ []) ≡ None
two-topics = refl
