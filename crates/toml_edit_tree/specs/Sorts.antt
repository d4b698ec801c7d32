-- The slots of the code as the definitions of sorts have them, and what sorts by a closure leave.
use Rattle.std.specs.Prelude.{◌≡◌, Bool, List, map}
use Rattle.std.specs.Borrow.{Bor}
use Rattle.std.specs.Fn.{Mut, AlwaysReturns}
use Rattle.std.specs.Ordering.{is_lt}
use Rattle.std.specs.declared.cmp.Ordering.{Ordering}
use Rattle.toml_edit_model.specs.Slots.{Slot}
use Rattle.toml_edit_model.specs.Sorting.{IsDeepSort, IsSortOf, IsSortOfInline, IsSortOfTable, ReordersItem, others_first}
use Rattle.toml_edit_model.specs.Tree.{Key, Node, is_value_node}
use Rattle.toml_edit_slots.specs.Seen.{slot_seen}
use Rattle.toml_edit_slots.specs.declared.slots.Slot as code
use Rattle.toml_edit_tree.specs.declared.item.Item.{Item}
use Rattle.toml_edit_tree.specs.declared.value.Value.{Value}
use Rattle.toml_edit_tree.specs.View.{item_view, value_view}

-- slots whose items are seen as their tree
abbrev pub items_seen : List (code.Slot Item) → List (Slot Node)
items_seen es = map (slot_seen item_view) es

-- ---- closures that compare two slots, by their keys and what is under them

-- each call of f at two slots returns `Less` just where lt holds of them
abbrev pub ComparesItems : {F : Type 0}
    → Mut F (Bor Key × (Bor Item × (Bor Key × (Bor Item × Unit {0})))) Ordering
    → (Slot Node → Slot Node → Bool) → F → Type 0
ComparesItems g lt =
    AlwaysReturns g (λ a r. is_lt r
    ≡ lt (record { key = a.0.now; item = item_view a.1.0.now })
    (record { key = a.1.1.0.now; item = item_view a.1.1.1.0.now }))

abbrev pub ComparesPairs : {F : Type 0}
    → Mut F (Bor Key × (Bor Value × (Bor Key × (Bor Value × Unit {0})))) Ordering
    → (Slot Node → Slot Node → Bool) → F → Type 0
ComparesPairs g lt =
    AlwaysReturns g (λ a r. is_lt r
    ≡ lt (record { key = a.0.now; item = value_view a.1.0.now })
    (record { key = a.1.1.0.now; item = value_view a.1.1.1.0.now }))

-- ---- sorts by each test by which f returns `Less`

-- of the slots of a table, with those of the dotted tables inside
abbrev pub SortsTableAs : {F : Type 0}
    → Mut F (Bor Key × (Bor Item × (Bor Key × (Bor Item × Unit {0})))) Ordering → F
    → List (Slot Node) → List (Slot Node) → Type 0
SortsTableAs g f before after =
    (lt : Slot Node → Slot Node → Bool) → ComparesItems g lt f → IsSortOfTable lt before after

-- of the slots of an inline table, with those of the dotted inline tables inside
abbrev pub SortsInlineAs : {F : Type 0}
    → Mut F (Bor Key × (Bor Value × (Bor Key × (Bor Value × Unit {0})))) Ordering → F
    → List (Slot Node) → List (Slot Node) → Type 0
SortsInlineAs g f before after =
    (lt : Slot Node → Slot Node → Bool) → ComparesPairs g lt f → IsSortOfInline lt before after

-- of slots, with those inside that it enters; of an item that it may enter; and of slots alone
abbrev pub SortsDeeplyAs : {F : Type 0} → (Node → Bool)
    → Mut F (Bor Key × (Bor Item × (Bor Key × (Bor Item × Unit {0})))) Ordering → F
    → List (Slot Node) → List (Slot Node) → Type 0
SortsDeeplyAs enters g f before after =
    (lt : Slot Node → Slot Node → Bool) → ComparesItems g lt f → IsDeepSort enters lt before after

abbrev pub SortsItemAs : {F : Type 0} → (Node → Bool)
    → Mut F (Bor Key × (Bor Item × (Bor Key × (Bor Item × Unit {0})))) Ordering → F → Node → Node
    → Type 0
SortsItemAs enters g f before after =
    (lt : Slot Node → Slot Node → Bool) → ComparesItems g lt f
    → ReordersItem enters (IsSortOf lt) before after

abbrev pub SortsItemsAs : {F : Type 0}
    → Mut F (Bor Key × (Bor Item × (Bor Key × (Bor Item × Unit {0})))) Ordering → F
    → List (Slot Node) → List (Slot Node) → Type 0
SortsItemsAs g f before after =
    (lt : Slot Node → Slot Node → Bool) → ComparesItems g lt f → IsSortOf lt before after

-- ---- one result for two slots

-- where f compares by lt, it is as lt has it
abbrev pub AnswersItems : {F : Type 0}
    → Mut F (Bor Key × (Bor Item × (Bor Key × (Bor Item × Unit {0})))) Ordering → F → Slot Node
    → Slot Node → Ordering → Type 0
AnswersItems g f s r answer =
    (lt : Slot Node → Slot Node → Bool) → ComparesItems g lt f → is_lt answer ≡ lt s r

-- and where a slot has no value, that comes first
abbrev pub AnswersPairs : {F : Type 0}
    → Mut F (Bor Key × (Bor Value × (Bor Key × (Bor Value × Unit {0})))) Ordering → F → Slot Node
    → Slot Node → Ordering → Type 0
AnswersPairs g f s r answer =
    (lt : Slot Node → Slot Node → Bool) → ComparesPairs g lt f
    → is_lt answer ≡ others_first (λ t. is_value_node t.item) lt s r
