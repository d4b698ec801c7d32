-- Building the slots of a document's root, statement by statement: what is kept between statements,
-- and what each statement does. `StandsBefore` is what a parser keeps up in its loop.
use Rattle.std.specs.Prelude.{◌≡◌, ℕ, suc, ◌+◌, ◌-◌, Bool, true, false, not, List, [], ◌∷◌, ◌++◌, length, map, flat_map, Contains, Option}
use Rattle.std.specs.Prelude.{Some, None, is_some, option_map, option_and_then}
use Rattle.toml_edit_model.specs.Mode.{Mode, with_return}
use Rattle.toml_edit_model.specs.Text.{Text, one, is_empty}
use Rattle.toml_edit_model.specs.Syntax.{Statement, key_line, header, Document, IsDocument, statement_text, mark_text, document_text}
use Rattle.toml_edit_model.specs.Paths.{at_key, at_element, Path, Mention, Source, Placed, Context, line_mentions, header_mentions}
use Rattle.toml_edit_model.specs.Paths.{header_role_of, path_start, source_of, mentions_of, start_context, context_after, placed_from}
use Rattle.toml_edit_model.specs.Accepted.{is_accepted, IsFirstFaulty}
use Rattle.toml_edit_model.specs.Faults.{Fault, own_faults, faults_in, IsFirstFault}
use Rattle.toml_edit_model.specs.Tree.{Node, table, tables, Items, no_items, item, Slots, no_slots, Tree}
use Rattle.toml_edit_model.specs.TreeOf.{spanned_in, root_fields, value_start, IsValueNode, AreSlotsOf, IsTreeOf}
use Rattle.toml_edit_laws.specs.OneByOne.{all_right_after}
use Rattle.toml_edit_laws.specs.InlineTree.{node_at}
use Rattle.toml_edit_laws.specs.TableTree.{change_last, change_under, add_line, add_header}
use Rattle.toml_edit_laws.specs.TableClash.{line_clash, header_clash, table_way_fault, table_way_faults}
use Rattle.toml_edit_model.specs.TableMentions.{kept}

-- ---- the table of a block, by the keys of its header

abbrev pub keys_in : Path → List Text
keys_in [] = []
keys_in (at_key k ∷ p) = k ∷ keys_in p
keys_in (at_element i ∷ p) = keys_in p

-- the slots of the last element
abbrev pub last_slots : Items → Option Slots
last_slots no_items = None
last_slots (item (table f inner) no_items) = Some inner
last_slots (item n no_items) = None
last_slots (item n (item m xs)) = last_slots (item m xs)

-- the slots of a table, or of the last element of an array of tables
abbrev pub block_slots : Node → Option Slots
block_slots (table f inner) = Some inner
block_slots (tables e xs) = last_slots xs
block_slots n = None

-- the slots of the table at these keys
abbrev pub slots_along : List Text → Slots → Option Slots
slots_along [] ss = Some ss
slots_along (k ∷ ks) ss =
    option_and_then (slots_along ks) (option_and_then block_slots (node_at k ss))

-- a change of them
abbrev pub change_in : (Slots → Option Slots) → Node → Option Node
change_in change (table f inner) = option_map (table f) (change inner)
change_in change (tables e xs) = option_map (tables e) (change_last change xs)
change_in change n = None

abbrev pub change_along : List Text → (Slots → Option Slots) → Slots → Option Slots
change_along [] change ss = change ss
change_along (k ∷ ks) change ss = change_under k (change_in (change_along ks change)) ss

-- ---- what is kept between statements

-- The slots of the root, where the next statement begins, how many headers there were, and the keys
-- of the last of them.
pub record Builder : Type 0 where
  pub slots : Slots
  pub start : ℕ
  pub headers : ℕ
  pub block : List Text

-- before the first statement, after a byte order mark if there is one
abbrev pub first_builder : Bool → Builder
first_builder has_mark = record {
  slots = no_slots;
  start = length (mark_text has_mark);
  headers = 0;
  block = [];
}

-- a statement in its place; its number and its path make no difference to slots
abbrev pub source_at : Builder → Statement → Source
source_at b (key_line f v end) = record {
  start = b.start;
  headers = b.headers;
  path = [];
  statement = key_line f v end;
}
source_at b (header h end) = record {
  start = b.start;
  headers = suc b.headers;
  path = [];
  statement = header h end;
}

-- its keys, below its block or below the root; nor do the numbers of elements in their paths
abbrev pub mentions_at : Builder → Statement → List (Mention Source)
mentions_at b (key_line f v end) =
    line_mentions (source_at b (key_line f v end))
    (b.start + path_start (key_line f v end)) [] f.path
mentions_at b (header h end) =
    header_mentions (source_at b (header h end)) [] (header_role_of h)
    (b.start + path_start (header h end)) [] h.path

-- what is in its way
abbrev pub clash_at : Builder → Statement → Option (Mention Source × Node)
clash_at b (key_line f v end) =
    option_and_then (line_clash (mentions_at b (key_line f v end))) (slots_along b.block b.slots)
clash_at b (header h end) = header_clash h.is_array (mentions_at b (header h end)) b.slots

-- all faults that are in it
abbrev pub faults_at : Builder → Statement → List Fault
faults_at b s = own_faults b.start s ++ table_way_faults (clash_at b s)

-- after a statement, with these slots
abbrev pub headers_with : ℕ → Statement → ℕ
headers_with n (key_line f v end) = n
headers_with n (header h end) = suc n

abbrev pub block_with : List Text → Statement → List Text
block_with ks (key_line f v end) = ks
block_with ks (header h end) = map (λ s. s.key) h.path

abbrev pub behind : Builder → Statement → Slots → Builder
behind b s ss =
    record {
      slots = ss;
      start = b.start + length (statement_text s);
      headers = headers_with b.headers s;
      block = block_with b.block s;
    }

-- ---- the statements until now

-- the context after statements
abbrev pub context_from : Context → List Statement → Context
context_from c [] = c
context_from c (s ∷ rest) = context_from (context_after c s) rest

abbrev pub context_behind : Document → List Statement → Context
context_behind d done = context_from (start_context d) done

-- the first statements of the document in their places
abbrev pub done_places : Document → List Statement → List Placed
done_places d done = placed_from (start_context d) done

abbrev pub next_place : Document → List Statement → Statement → Placed
next_place d done s = record {
  source = source_of (context_behind d done) s;
  mentions = mentions_of (context_behind d done) s;
}

-- ---- what stops a run

-- The document is refused: the statement after these is its first faulty one, and this is one of
-- its faults.
pub record Stops (d : Document) (done : List Statement) (s : Statement) (f : Fault) : Type 0 where
  pub first : IsFirstFaulty d (done_places d done) (next_place d done s)
  pub names : IsFirstFault d f
  pub refused : is_accepted d ≡ false

-- the builder after the statements that were added, and the statements left
abbrev pub Outcome : Type 0
Outcome = Builder × List Statement

abbrev pub run_on : (Slots → Outcome) → Outcome → Bool → Option Slots → Outcome
run_on go stay true (Some ss) = go ss
run_on go stay _ _ = stay

-- It stops at the first faulty statement, by its faults.
pub record EndsAt (d : Document) (s : Statement) (rest : List Statement)
    (b : Builder) : Type 0 where
  pub done : List Statement
  pub split : d.statements ≡ done ++ (s ∷ rest)
  pub first : IsFirstFaulty d (done_places d done) (next_place d done s)
  pub faults : faults_in (done_places d done) (next_place d done s) ≡ faults_at b s
  pub refused : is_accepted d ≡ false

-- ---- in a mode

module _ (mode : Mode) where
  -- the slots with a statement added, whose value has this item; none where something is in its way
  abbrev pub added : Builder → Statement → Node → Option Slots
  added b (key_line f v end) n =
      change_along b.block (add_line mode (mentions_at b (key_line f v end)) n) b.slots
  added b (header h end) n = add_header mode h.is_array (mentions_at b (header h end)) b.slots

  -- the item is of the value of a statement that begins at this byte, if it has one
  abbrev pub IsStatementNode : ℕ → Statement → Node → Type 0
  IsStatementNode start (key_line f v end) n =
      IsValueNode (spanned_in mode) v (start + value_start (spanned_in mode) f) f.after_equals
      (with_return mode f.trailing end) n
  IsStatementNode start (header h end) n = Unit {0}

  -- The builder is after these statements, the first of the document: each is right after those
  -- before it, and the slots are those of all their mentions.
  pub record IsBehind (d : Document) (done : List Statement) (b : Builder) : Type 0 where
    pub right : all_right_after [] (done_places d done) ≡ true
    pub start : b.start ≡ (context_behind d done).start
    pub headers : b.headers ≡ (context_behind d done).headers
    pub block : b.block ≡ keys_in (context_behind d done).block
    pub slots : AreSlotsOf (spanned_in mode) (flat_map (λ s. s.mentions) (done_places d done))
        (kept (flat_map (λ s. s.mentions) (done_places d done))) b.slots

  -- What a statement does after these: it stops the builder by a fault of its own, or by what is in
  -- its way; else it is added, and the builder is after it. The table of its block is there.
  pub record IsStep (d : Document) (done : List Statement) (s : Statement)
      (b : Builder) : Type 0 where
    pub faulty : (f : Fault) → Contains (own_faults b.start s) f → Stops d done s f
    pub clashes : (x : Mention Source × Node) → clash_at b s ≡ Some x
        → Stops d done s (table_way_fault x)
    pub goes : (n : Node) → is_some (added b s n) ≡ not (is_some (clash_at b s))
    pub there : (inner : Slots) × (slots_along b.block b.slots ≡ Some inner)
    pub keeps : (n : Node) (next : Slots) → own_faults b.start s ≡ [] → IsStatementNode b.start s n
        → added b s n ≡ Some next
        → IsBehind d (done ++ one s) (behind b s next)

  -- the tree of the document with the builder's slots
  abbrev pub built_tree : Document → Builder → Tree
  built_tree d b =
      record {
        root = root_fields (spanned_in mode);
        slots = b.slots;
        trailing = (spanned_in mode).raw (length (document_text d) - length d.final) d.final;
      }

  -- A builder begins before the first statement of a document, goes on statement by statement, and
  -- after the last it has the tree.
  pub record IsBuilt (d : Document) : Type 0 where
    pub first : IsBehind d [] (first_builder d.has_mark)
    pub step : (done : List Statement) (s : Statement) (rest : List Statement) (b : Builder)
        → d.statements ≡ done ++ (s ∷ rest) → IsBehind d done b
        → IsStep d done s b
    pub last : (b : Builder) → IsBehind d d.statements b
        → (is_accepted d ≡ true) × IsTreeOf (spanned_in mode) d (built_tree d b)

  abbrev pub Building : Type 0
  Building = (d : Document) → IsDocument d → IsBuilt d

  -- ---- all statements

  -- Of the statements of the document these are left, and the builder is after the others.
  pub record StandsBefore (d : Document) (rest : List Statement) (b : Builder) : Type 0 where
    pub done : List Statement
    pub split : d.statements ≡ done ++ rest
    pub behind : IsBehind d done b

  -- Statements with these items are added, one after another, up to one that has a fault or can't
  -- be added.
  abbrev pub run : Builder → List Statement → List Node → Outcome
  run b [] ns = (b, [])
  run b (s ∷ rest) [] = (b, s ∷ rest)
  run b (s ∷ rest) (n ∷ ns) =
      run_on (λ ss. run (behind b s ss) rest ns) (b, s ∷ rest) (is_empty (own_faults b.start s))
      (added b s n)

  -- the items are of the values of the statements, the first of which begins at this byte; where a
  -- statement has a fault any item will do
  abbrev pub AreStatementNodes : ℕ → List Statement → List Node → Type 0
  AreStatementNodes start [] [] = Unit {0}
  AreStatementNodes start (s ∷ rest) (n ∷ ns) =
      (own_faults start s ≡ [] → IsStatementNode start s n)
      × AreStatementNodes (start + length (statement_text s)) rest ns
  AreStatementNodes start _ _ = ⊥

  -- It ends with all statements, where the document is accepted, and then with its tree; else it
  -- stops.
  abbrev pub Ends : Document → Outcome → Type 0
  Ends d (b, []) = (is_accepted d ≡ true) × IsTreeOf (spanned_in mode) d (built_tree d b)
  Ends d (b, s ∷ rest) = EndsAt d s rest b

  abbrev pub Runs : Type 0
  Runs =
      (d : Document) (ns : List Node) → IsDocument d
      → AreStatementNodes (length (mark_text d.has_mark)) d.statements ns
      → Ends d (run (first_builder d.has_mark) d.statements ns)

  -- An accepted document has a tree over its text.
  abbrev pub HasTree : Type 0
  HasTree =
      (d : Document) → IsDocument d → is_accepted d ≡ true
      → (tree : Tree) × IsTreeOf (spanned_in mode) d tree
