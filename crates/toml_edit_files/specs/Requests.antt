-- What the words of a call ask for.
use Rattle.std.specs.Prelude.{◌≡◌, ◌≢◌, Bool, true, false, ◌&&◌, ◌||◌, if◌then◌else◌, IsTrue, MatchBool, List, [], ◌∷◌, ◌++◌, map, Option, Some, None, is_none, is_some, option_map, option_to_list, unwrap_or, bytes_eq, codes, string_bytes, Vec}
use Rattle.std.specs.declared.alloc.Global.{Global}
use Rattle.std.specs.Option.{option_copied}
use Rattle.toml_edit_model.specs.Keys.{names}
use Rattle.toml_edit_model.specs.Text.{Text}
use Rattle.toml_edit_model.specs.Tree.{Key}
use Rattle.toml_edit_model.specs.Version.{Version}
use Rattle.toml_edit_edits.specs.Said.{SaysEdit, SpellsKeys}
use Rattle.toml_edit_edits.specs.declared.edit.Edit.{Edit}
use Rattle.toml_edit_edits.specs.declared.edit.Edit.TheVariants.{Sort}
use Rattle.toml_edit_words.specs.Spelled.{SpellsPath}
use Rattle.toml_edit_settings.specs.RuleWords.{is_taken}
use Rattle.toml_edit_files.specs.Edited.{version_by}
use Rattle.toml_edit_files.specs.Help.{help_on, topic_of}
use Rattle.toml_edit_files.specs.Split.{Words, has, last_of, rule_of, split_words}
use Rattle.toml_edit_files.specs.declared.help.TheConstants.{VERSION}
use Rattle.toml_edit_files.specs.declared.help.Topic.{Topic}
use Rattle.toml_edit_files.specs.declared.help.Topic.TheVariants as topics
use Rattle.toml_edit_files.specs.declared.words.Command.{Command}
use Rattle.toml_edit_files.specs.declared.words.Command.TheVariants as commands
use Rattle.toml_edit_files.specs.declared.words.EditCommand.{EditCommand}
use Rattle.toml_edit_files.specs.declared.words.Fmt.{Fmt}
use Rattle.toml_edit_files.specs.declared.words.Get.{Get}
use Rattle.toml_edit_files.specs.declared.words.Has.{Has}
use Rattle.toml_edit_items.specs.Kinds.{kind_named}
use Rattle.toml_edit_items.specs.declared.kind.Kind.{Kind}
use Rattle.toml_edit_files.specs.declared.words.Question.TheVariants as questions
use Rattle.toml_edit_files.specs.declared.words.Reading.{Reading}
use Rattle.toml_edit_files.specs.declared.words.Request.{Request}
use Rattle.toml_edit_items.specs.declared.shape.Shape.{Shape}
use Rattle.toml_edit_items.specs.declared.shape.Shape.TheVariants as shapes

-- ---- how files are read

-- how files are read after the word `strict` or `normal`
abbrev pub marked : Reading → Text → Option Reading
marked reading w =
    if bytes_eq w (codes "strict") then Some (record reading { strict = true })
    else (if bytes_eq w (codes "normal") then Some (record reading { normal = true }) else None)

-- these words in front, and the words after them
abbrev pub reading_in : Reading → List Text → Reading × List Text
reading_in reading [] = (reading, [])
reading_in reading (w ∷ ws) =
    if is_none (marked reading w) then (reading, w ∷ ws)
    else reading_in (unwrap_or (marked reading w) reading) ws

-- ---- help

abbrev pub is_help_option : Text → Bool
is_help_option w = bytes_eq w (codes "--help") || bytes_eq w (codes "-h")

abbrev pub is_help : Text → Bool
is_help w = is_help_option w || bytes_eq w (codes "help")

abbrev pub is_version : Text → Bool
is_version w = bytes_eq w (codes "--version") || bytes_eq w (codes "-V")

-- the first word after the name of a command asks for help on it
abbrev pub asks_help : List Text → Bool
asks_help [] = false
asks_help (w ∷ ws) = is_help_option w

-- what is written where these words follow the one that asks for help
abbrev pub help_by : List Text → Option Text
help_by [] = Some (help_on topics.Program)
help_by (w ∷ []) = option_map help_on (topic_of w)
help_by (w ∷ (v ∷ ws)) = None

-- the command is to write this text
abbrev pub Shows : Option Text → Command → Type 0
Shows text (commands.Show s) = text ≡ Some (string_bytes s)
Shows text _ = ⊥

-- ---- the operands of commands

abbrev pub ArePaths : List Text → List (List Key) → Type 0
ArePaths [] [] = Unit {0}
ArePaths (t ∷ ts) (path ∷ paths) = SpellsPath t (names path) × ArePaths ts paths
ArePaths _ _ = ⊥

-- of `--raw` and `--lines` the last counts
abbrev pub shape_in : Shape → List (Text × Text) → Shape
shape_in shape [] = shape
shape_in shape (o ∷ os) =
    if bytes_eq o.0 (codes "--raw") then shape_in shapes.Raw os
    else (if bytes_eq o.0 (codes "--lines") then shape_in shapes.Lines os else shape_in shape os)

pub record IsGet (s : Words) (c : Get) : Type 0 where
  pub texts : List Text
  pub operands : s.operands ≡ c.file.now ∷ texts
  pub some : texts ≢ []
  pub paths : ArePaths texts (map (λ path. path.items) c.paths.items)
  pub shape : c.shape ≡ shape_in shapes.Spelled s.options
  pub default : option_copied c.default ≡ last_of (codes "--default") s.options

-- no word is a kind, or one is
abbrev pub IsKind : List Text → Option Kind → Type 0
IsKind [] kind = kind ≡ None
IsKind (w ∷ []) kind = IsTrue (is_some kind) × (kind ≡ kind_named w)
IsKind (w ∷ (v ∷ ws)) kind = ⊥

abbrev pub IsHas : Words → Has → Type 0
IsHas s c =
    (path : Text) × (more : List Text) × (s.operands ≡ c.file.now ∷ (path ∷ more))
    × SpellsPath path (names c.path.items) × IsKind more c.kind

-- a file and a path, which is that of the root if it is missing
abbrev pub AreFileAndPath : List Text → Text → List Key → Type 0
AreFileAndPath (file ∷ []) name path = (file ≡ name) × (path ≡ [])
AreFileAndPath (file ∷ (t ∷ [])) name path = (file ≡ name) × SpellsPath t (names path)
AreFileAndPath _ name path = ⊥

module _ (version : Version) where
  -- the words say these edits, with a comma between two
  abbrev pub SaysApart : List Text → List Edit → Type 0
  SaysApart ws [] = ws ≡ []
  SaysApart ws (e ∷ []) = SaysEdit version ws e
  SaysApart ws (e ∷ (f ∷ es)) =
      (first : List Text) × (rest : List Text) × (ws ≡ first ++ (codes "," ∷ rest))
      × SaysEdit version first e × SaysApart rest (f ∷ es)

  -- there is an edit, or a script
  pub record IsEdit (s : Words) (c : EditCommand) (edits : List Edit) : Type 0 where
    pub words : List Text
    pub operands : s.operands ≡ c.file.now ∷ words
    pub said : SaysApart words edits
    pub some : edits ≡ [] → c.script ≢ None
    pub script : option_copied c.script ≡ last_of (codes "--script") s.options
    pub output : option_copied c.output ≡ last_of (codes "--output") s.options
    pub dry_run : c.dry_run ≡ (has (codes "--dry-run") s.options || has (codes "--diff") s.options)
    pub diff : c.diff ≡ has (codes "--diff") s.options
    pub locked : c.locked ≡ has (codes "--locked") s.options
    pub force : c.force ≡ has (codes "--force") s.options

-- the sorts that the options ask for, in their order
abbrev pub AreSorts : List (Text × Text) → List Edit → Type 0
AreSorts [] es = es ≡ []
AreSorts (o ∷ os) es =
    MatchBool (bytes_eq o.0 (codes "--sort"))
    ((path : Vec Key Global) × (more : List Edit) × (es ≡ Sort path ∷ more)
    × SpellsKeys o.1 path.items × AreSorts os more)
    (AreSorts os es)

-- the rules that the options set, in their order, each with its value
abbrev pub rules_in : List (Text × Text) → List (Text × Text)
rules_in [] = []
rules_in (o ∷ os) =
    option_to_list (option_map (λ name. (name, o.1)) (rule_of o.0)) ++ rules_in os

-- each rule takes its value
abbrev pub are_taken : List (Text × Text) → Bool
are_taken [] = true
are_taken (r ∷ rs) = is_taken r.0 r.1 && are_taken rs

pub record IsFmt (s : Words) (c : Fmt) : Type 0 where
  pub files : map (λ f. f.now) c.files.items ≡ s.operands
  pub some : s.operands ≢ []
  pub sorts : AreSorts s.options c.style.sorts.items
  pub rules : map (λ r. (r.0.now, r.1.now)) c.style.rules.items ≡ rules_in s.options
  pub taken : IsTrue (are_taken (rules_in s.options))
  pub keys : c.style.keys ≡ has (codes "--keys") s.options
  pub check : c.check ≡ (has (codes "--check") s.options || has (codes "--diff") s.options)
  pub diff : c.diff ≡ has (codes "--diff") s.options
  pub force : c.force ≡ has (codes "--force") s.options

-- ---- commands

module _ (version : Version) where
  -- the words after the name of a command say this
  abbrev pub SaysBy : Topic → Words → Command → Type 0
  SaysBy topics.Get s (commands.Ask (questions.Get c)) = IsGet s c
  SaysBy topics.Has s (commands.Ask (questions.Has c)) = IsHas s c
  SaysBy topics.Keys s (commands.Ask (questions.Keys c)) =
      AreFileAndPath s.operands c.file.now c.path.items × (c.all ≡ has (codes "--all") s.options)
  SaysBy topics.Json s (commands.Ask (questions.Json c)) =
      AreFileAndPath s.operands c.file.now c.path.items
  SaysBy topics.Edit s (commands.Edit c edits) = IsEdit version s c edits.items
  SaysBy topics.Check s (commands.Check files) =
      (map (λ f. f.now) files.items ≡ s.operands) × (s.operands ≢ [])
  SaysBy topics.Fmt s (commands.Fmt c) = IsFmt s c
  SaysBy _ s _ = ⊥

  abbrev pub IsNoneBy : Topic → Words → Type 0
  IsNoneBy topic s = (c : Command) → SaysBy topic s c → ⊥

  -- so it is of words that ask for no help
  abbrev pub SaysAfter : Topic → List Text → Command → Type 0
  SaysAfter topic ws c =
      MatchBool (asks_help ws) (Shows (Some (help_on topic)) c)
      ((s : Words) × (split_words topic ws ≡ Some s) × SaysBy topic s c)

  abbrev pub IsNoneAfter : Topic → List Text → Type 0
  IsNoneAfter topic ws = (c : Command) → SaysAfter topic ws c → ⊥

  -- all words but those of how files are read
  abbrev pub SaysNamed : Option Topic → List Text → Command → Type 0
  SaysNamed None ws c = ⊥
  SaysNamed (Some topic) ws c = SaysAfter topic ws c

  abbrev pub SaysCommand : List Text → Command → Type 0
  SaysCommand [] c = ⊥
  SaysCommand (w ∷ ws) c =
      MatchBool (is_help w) (Shows (help_by ws) c)
      (MatchBool (is_version w) (Shows (Some VERSION.now) c) (SaysNamed (topic_of w) ws c))

  abbrev pub IsNoCommand : List Text → Type 0
  IsNoCommand ws = (c : Command) → SaysCommand ws c → ⊥

-- ---- requests

-- the words of a call ask for this, or for nothing
abbrev pub SaysRequest : List Text → Request → Type 0
SaysRequest ws q =
    let asked = reading_in (record { strict = false; normal = false }) ws in
    (q.reading ≡ asked.0) × SaysCommand (version_by q.reading) asked.1 q.command

abbrev pub IsNoRequest : List Text → Type 0
IsNoRequest ws = (q : Request) → SaysRequest ws q → ⊥
