-- Which roles stand at the path of an item of a table.
use Rattle.std.proofs.Common.{◌≡◌, refl, sym, ◌∙◌, ap, Bool, true, false, List, [], ◌∷◌, Option, Some, inl, inr}
use Rattle.std.specs.Prelude.{◌&&◌, ◌||◌, not, if◌then◌else◌, option_map, map}
use Rattle.std.specs.List.{list_any}
use Rattle.toml_edit_model.specs.Mode.{Mode}
use Rattle.toml_edit_model.specs.Text.{Text, is_empty}
use Rattle.toml_edit_model.specs.Syntax.{Statement, key_line, header}
use Rattle.toml_edit_model.specs.Paths.{at_key, Path, same_path, Mention, Source}
use Rattle.toml_edit_model.specs.Tree.{TableFields, Node, nothing, leaf, list, inline, table, tables, Slots, is_value_node}
use Rattle.toml_edit_model.specs.TreeOf.{Form, spanned_in, key_extent, made_by_path, header_fields, fields_of, IsTableRole, IsLineNode}
use Rattle.toml_edit_model.specs.TreeOf.{IsNodeOf, AreSlotsOf}
use Rattle.toml_edit_laws.specs.InlineTree.{node_at}
use Rattle.toml_edit_laws.proofs.common.Tests.{true-false}
use Rattle.toml_edit_laws.proofs.mentions.GatherLaws.{first_of_key, first_of_key-is, first_at}
use Rattle.toml_edit_laws.proofs.clashes.ClashMentions.{is_table_role, kinds-apart, AreOfStatements}
use Rattle.toml_edit_laws.proofs.clashes.ClashKept.{find-all, IsLead, kept-is-lead, lead-role}
use Rattle.toml_edit_laws.proofs.adding.TableSlots.{IsFound as IsFoundBySlot, slots-find}
use Rattle.toml_edit_laws.proofs.common.OptionSteps.{some-is}
use Rattle.toml_edit_laws.proofs.mentions.Placed.{is_header, IsHeaded}
use Rattle.toml_edit_laws.proofs.mentions.SomeAt.{some_at-under, some_at-less}
use Rattle.toml_edit_laws.proofs.mentions.RoleTests.{is_through_role, by_role, implies}
use Rattle.toml_edit_model.specs.Roles.{Role, dotted_role, implied_role, header_role, array_role, value_role, continued_role}
use Rattle.toml_edit_model.specs.Roles.{is_header_role, is_value_role, is_dotted_role, is_array_role}
use Rattle.toml_edit_model.specs.TableMentions.{under, own, roles, kept, some_at}
use Rattle.toml_edit_model.specs.Lists.{is_tables_node, is_dotted_table}
use Rattle.toml_edit_model.specs.Shown.{is_table_node}

module _ (mode : Mode) where
  -- ---- the item of a key

  -- the item of a kept mention, among these
  abbrev pub IsSlotNode : List (Mention Source) → Mention Source → Node → Type 0
  IsSlotNode ms m n = IsNodeOf (spanned_in mode) (under (at_key m.segment.key) ms) m n

  -- the item of a key is that of its kept mention
  abbrev pub IsFound : List (Mention Source) → Option (Mention Source) → Option Node → Type 0
  IsFound ms first o = IsFoundBySlot (spanned_in mode) ms first o

  pub node-found : (ms ks : List (Mention Source)) (k : Text) (ss : Slots) → AreSlotsOf (spanned_in mode) ms ks ss
      → IsFound ms (first_of_key k ks) (node_at k ss)
  node-found ms ks k ss h = slots-find (spanned_in mode) ms ks k ss h

abbrev pub is_headed_node : Node → Bool
is_headed_node (table f ss) = not f.is_implicit
is_headed_node _ = false

-- ---- roles at its path

-- An item says which roles stand at its path: a value's stands alone, an array's with those that pass through it, and a table's with
-- those of tables, of a header where it isn't implicit and of a dotted key where it is dotted.
pub record AreRolesOf (ms : List (Mention Source)) (p : Path) (n : Node) : Type 0 where
  pub value : some_at is_value_role p ms ≡ is_value_node n
  pub array : some_at is_array_role p ms ≡ is_tables_node n
  pub table : some_at is_table_role p ms ≡ is_table_node n
  pub headed : some_at is_header_role p ms ≡ is_headed_node n
  pub dotted : some_at is_dotted_role p ms ≡ is_dotted_table n

-- no role of a table, and so no header and no dotted key
pub no-table : (p : Path) (ms : List (Mention Source)) → some_at is_table_role p ms ≡ false → (some_at is_header_role p ms ≡ false)
    × (some_at is_dotted_role p ms ≡ false)
no-table p ms h = (
  some_at-less is_header_role is_table_role p ms (by_role (λ r. implies (is_header_role r) (is_table_role r)) refl) h,
  some_at-less is_dotted_role is_table_role p ms (by_role (λ r. implies (is_dotted_role r) (is_table_role r)) refl) h,
)

value-roles : (p : Path) (ms : List (Mention Source)) (n : Node) → AreOfStatements ms → some_at is_value_role p ms ≡ true
    → is_value_node n ≡ true → is_tables_node n ≡ false → is_table_node n ≡ false → is_headed_node n ≡ false → is_dotted_table n ≡ false
    → AreRolesOf ms p n
value-roles p ms n are h v a t e d =
    let none = kinds-apart is_value_role is_table_role p ms refl are.meeting h in
    let less = no-table p ms none in
    record {
      value = h ∙ sym v;
      array = kinds-apart is_value_role is_array_role p ms refl are.meeting h ∙ sym a;
      table = none ∙ sym t;
      headed = less.0 ∙ sym e;
      dotted = less.1 ∙ sym d;
    }

array-roles : (p : Path) (ms : List (Mention Source)) (n : Node) → AreOfStatements ms → some_at is_array_role p ms ≡ true
    → is_value_node n ≡ false → is_tables_node n ≡ true → is_table_node n ≡ false → is_headed_node n ≡ false → is_dotted_table n ≡ false
    → AreRolesOf ms p n
array-roles p ms n are h v a t e d =
    let none = kinds-apart is_array_role is_table_role p ms refl are.meeting h in
    let less = no-table p ms none in
    record {
      value = kinds-apart is_array_role is_value_role p ms refl are.meeting h ∙ sym v;
      array = h ∙ sym a;
      table = none ∙ sym t;
      headed = less.0 ∙ sym e;
      dotted = less.1 ∙ sym d;
    }

table-roles : (p : Path) (ms : List (Mention Source)) (f : TableFields) (ss : Slots) → AreOfStatements ms → some_at is_table_role p ms
    ≡ true
    → some_at is_header_role p ms ≡ not f.is_implicit → some_at is_dotted_role p ms ≡ f.is_dotted → AreRolesOf ms p (table f ss)
table-roles p ms f ss are h e d =
    record {
      value = kinds-apart is_table_role is_value_role p ms refl are.meeting h;
      array = kinds-apart is_table_role is_array_role p ms refl are.meeting h;
      table = h;
      headed = e;
      dotted = d;
    }

-- a table of a header has its fields
header-plain : (form : Form) (s : Source) (t : Statement) → is_header t ≡ true
    → ((header_fields form s t).is_implicit ≡ false) × ((header_fields form s t).is_dotted ≡ false)
header-plain form s (header h end) e = (refl, refl)
header-plain form s (key_line f v end) e = absurd cc

-- the roles of a table itself
pub own-roles : (test : Role → Bool) (ms : List (Mention Source)) → list_any test (roles ms) ≡ some_at test [] ms
own-roles test [] = refl
own-roles test (m ∷ ms) = by_path m.path (own-roles test ms)
  where
    by_path : (p : Path) → list_any test (roles ms) ≡ some_at test [] ms
        → list_any test (map (λ (x : Mention Source). x.role) (if is_empty p then m ∷ own ms else own ms))
        ≡ ((same_path p [] && test m.role) || some_at test [] ms)
    by_path [] ih = ap (λ b. test m.role || b) ih
    by_path (s ∷ p) ih = ih

-- a table that a path makes is dotted where a dotted key stands at its path
made-dotted : (form : Form) (k : Text) (ms : List (Mention Source)) (j : Mention Source) (f : TableFields) → k ≡ j.segment.key
    → f ≡ made_by_path form (list_any is_dotted_role (roles (under (at_key j.segment.key) ms))) (key_extent form j)
    → some_at is_dotted_role (at_key k ∷ []) ms ≡ f.is_dotted
made-dotted form k ms j f key g =
    ap (λ l. some_at is_dotted_role (at_key l ∷ []) ms) key
    ∙ sym (some_at-under is_dotted_role (at_key j.segment.key) [] ms)
    ∙ sym (own-roles is_dotted_role (under (at_key j.segment.key) ms))
    ∙ sym (ap (λ (x : TableFields). x.is_dotted) g)

-- the fields of a table by the role of the mention that it is kept from
table-kept : (form : Form) (k : Text) (ms : List (Mention Source)) (j : Mention Source) (f : TableFields) (ss : Slots) (r : Role)
    → AreOfStatements ms
    → IsLead (at_key k ∷ []) ms j → k ≡ j.segment.key → j.role ≡ r → IsTableRole form r → f
    ≡ fields_of form (under (at_key j.segment.key) ms) j r
    → AreRolesOf ms (at_key k ∷ []) (table f ss)
table-kept form k ms j f ss header_role are lead key e t g =
    let p = at_key k ∷ [] in
    let stands : some_at is_header_role p ms ≡ true = lead-role is_header_role p ms j lead (ap is_header_role e) in
    let plain = header-plain form j.source j.source.statement (headed lead) in
    table-roles p ms f ss are (lead-role is_table_role p ms j lead (ap is_table_role e))
    (stands ∙ sym (ap (λ (x : TableFields). not x.is_implicit) g ∙ ap not plain.0))
    (kinds-apart is_header_role is_dotted_role p ms refl are.meeting stands ∙ sym (ap (λ (x : TableFields). x.is_dotted) g ∙ plain.1))
  where
    headed : IsLead (at_key k ∷ []) ms j → is_header j.source.statement ≡ true
    headed (inl h) = find-all IsHeaded (λ (m : Mention Source). same_path m.path (at_key k ∷ [])
        && is_header_role m.role) ms j are.headed h.1 h.0
    headed (inr h) = find-all IsHeaded (λ (m : Mention Source). same_path m.path (at_key k ∷ [])) ms j are.headed h.1 (ap is_header_role e)
table-kept form k ms j f ss dotted_role are lead key e t g =
    let p = at_key k ∷ [] in
    let stands : some_at is_dotted_role p ms ≡ true = lead-role is_dotted_role p ms j lead (ap is_dotted_role e) in
    table-roles p ms f ss are (lead-role is_table_role p ms j lead (ap is_table_role e))
    (kinds-apart is_dotted_role is_header_role p ms refl are.meeting stands ∙ sym (ap (λ (x : TableFields). not x.is_implicit) g))
    (made-dotted form k ms j f key g)
table-kept form k ms j f ss implied_role are lead key e t g =
    let p = at_key k ∷ [] in
    table-roles p ms f ss are (lead-role is_table_role p ms j lead (ap is_table_role e))
    (no-header lead ∙ sym (ap (λ (x : TableFields). not x.is_implicit) g))
    (made-dotted form k ms j f key g)
  where
    no-header : IsLead (at_key k ∷ []) ms j → some_at is_header_role (at_key k ∷ []) ms ≡ false
    no-header (inl h) = true-false (is_header_role j.role) h.0 (ap is_header_role e)
    no-header (inr h) = h.0
table-kept form k ms j f ss continued_role are lead key e t g = by_lead lead
  where
    by_lead : IsLead (at_key k ∷ []) ms j → AreRolesOf ms (at_key k ∷ []) (table f ss)
    by_lead (inl h) = true-false (is_header_role j.role) h.0 (ap is_header_role e)
    by_lead (inr h) =
        let stands : some_at is_through_role (at_key k ∷ []) ms ≡ true =
        lead-role is_through_role (at_key k ∷ []) ms j lead (ap is_through_role e) in
        let first : Some j.role ≡ Some array_role = sym (ap (option_map (λ (m : Mention Source). m.role)) h.1)
        ∙ are.through (at_key k ∷ []) stands in
        let role : continued_role ≡ array_role = sym e ∙ some-is j.role array_role first in
        absurd cc
table-kept form k ms j f ss value_role are lead key e t g = absurd t
table-kept form k ms j f ss array_role are lead key e t g = absurd t

-- ---- the item of a slot

-- An item stands at a path: it says which roles are there, and a value is that of the first line there.
pub record IsStanding (form : Form) (ms : List (Mention Source)) (p : Path) (n : Node) : Type 0 where
  pub roles : AreRolesOf ms p n
  pub value : is_value_node n ≡ true → (j : Mention Source) × (first_at p ms ≡ Some j) × (j.role ≡ value_role)
      × IsLineNode form j.source j.source.statement n

pub value-first : (p : Path) (ms : List (Mention Source)) (j : Mention Source) → IsLead p ms j → j.role ≡ value_role → first_at p ms
    ≡ Some j
value-first p ms j (inl h) e = true-false (is_header_role j.role) h.0 (ap is_header_role e)
value-first p ms j (inr h) e = h.1

-- The heart: which roles stand at the path of an item.
pub standing : (form : Form) (k : Text) (ms : List (Mention Source)) (j : Mention Source) (n : Node) → AreOfStatements ms
    → first_of_key k (kept ms) ≡ Some j → IsNodeOf form (under (at_key j.segment.key) ms) j n
    → IsStanding form ms (at_key k ∷ []) n
standing form k ms j n are old h = by_node n h
  where
    p : Path
    p = at_key k ∷ []

    lead : IsLead p ms j
    lead = kept-is-lead k ms j are.named old

    by_node : (n : Node) → IsNodeOf form (under (at_key j.segment.key) ms) j n → IsStanding form ms p n
    by_node nothing h = absurd h
    by_node (leaf s x d) h =
        record {
          roles = value-roles p ms (leaf s x d) are (lead-role is_value_role p ms j lead (ap is_value_role h.0)) refl refl refl refl refl;
          value = λ e. (j, value-first p ms j lead h.0, h.0, h.1);
        }
    by_node (list f xs) h =
        record {
          roles = value-roles p ms (list f xs) are (lead-role is_value_role p ms j lead (ap is_value_role h.0)) refl refl refl refl refl;
          value = λ e. (j, value-first p ms j lead h.0, h.0, h.1);
        }
    by_node (inline f ss) h =
        record {
          roles = value-roles p ms (inline f ss) are (lead-role is_value_role p ms j lead (ap is_value_role h.0)) refl refl refl refl refl;
          value = λ e. (j, value-first p ms j lead h.0, h.0, h.1);
        }
    by_node (tables x xs) h =
        record {
          roles = array-roles p ms (tables x xs) are (lead-role is_array_role p ms j lead (ap is_array_role h.0)) refl refl refl refl refl;
          value = λ e. absurd cc;
        }
    by_node (table f ss) h =
        record {
          roles = table-kept form k ms j f ss j.role are lead (first_of_key-is k (kept ms) j old) refl h.0 h.1;
          value = λ e. absurd cc;
        }
