-- Another comment after a value or a header.
use Rattle.std.proofs.Common.{◌≡◌, refl, sym, ◌∙◌, ap, subst, Bool, true, false, List, [], ◌∷◌, ◌++◌, append-nil, Option, Some, None, inl, inr}
use Rattle.std.specs.Prelude.{◌⊎◌, ◌||◌, ◌&&◌, if◌then◌else◌, not, filter, is_some}
use Rattle.std.specs.List.{AllByRecursion}
use Rattle.toml_edit_model.specs.Mode.{Mode}
use Rattle.toml_edit_model.specs.Text.{Text}
use Rattle.toml_edit_model.specs.Comments.{with_comment_after}
use Rattle.toml_edit_model.specs.Conversions.{with_decor}
use Rattle.toml_edit_model.specs.Paths.{Path}
use Rattle.toml_edit_model.specs.Tree.{Decor, Node, TableFields, nothing, leaf, list, inline, table, tables, Slots, SlotsAreWellMade, IsWellMade, Tree, node_decor}
use Rattle.toml_edit_model.specs.HeaderOrder.{Visit}
use Rattle.toml_edit_model.specs.Fits.{has_own_prefix, has_steady_header, is_steady_in}
use Rattle.toml_edit_model.specs.Print.{Printed, has_header, printed}
use Rattle.toml_edit_laws.specs.EditLists.{print_of_statements}
use Rattle.toml_edit_laws.specs.Locality.{edited, is_at_or_below, root_visit, StaysSteady}
use Rattle.toml_edit_laws.proofs.common.Each.{all-back}
use Rattle.toml_edit_laws.proofs.common.Tests.{and_left, and_right, if-false}
use Rattle.toml_edit_laws.proofs.locality.Blocks.{IsSteadyTable}
use Rattle.toml_edit_laws.proofs.locality.Sound.{steady-parts}
use Rattle.toml_edit_laws.proofs.locality.Ways.{entered}
use Rattle.toml_edit_edit_laws.specs.Commands.{done, item_at, root_item}
use Rattle.toml_edit_edit_laws.specs.Comments.{header_edited, header_line, visit_with}
use Rattle.toml_edit_edit_laws.specs.Staying.{away_from, StaysButAt}
use Rattle.toml_edit_edit_laws.proofs.comments.HeaderPrints.{header_recommented, hidden_recommented}
use Rattle.toml_edit_edit_laws.proofs.comments.HeaderSlots.{header_recommented_stays_made}
use Rattle.toml_edit_paths.specs.Calls.{replaced_at}
use Rattle.toml_edit_edits.proofs.staying.Words.{StaysAt, StaysWithin, CommentedStays, IsCommented}
use Rattle.toml_edit_edit_laws.specs.Places.{place_of}
use Rattle.toml_edit_edits.proofs.staying.Below.{below-made}
use Rattle.toml_edit_edits.proofs.staying.Tables.{InsideValue, leads-join}
use Rattle.toml_edit_edits.proofs.staying.Turning.{Turned, table-turned}
use Rattle.toml_edit_edits.proofs.staying.Values.{value-stays}

-- ---- statements that are left out

abbrev pub apart : Path → List Printed → List Printed
apart p = filter (λ s. not (is_at_or_below p s.path))

pub drop-one : (p : Path) (x : Printed) → is_at_or_below p x.path ≡ true → (before rest : List Printed)
    → apart p (before ++ (x ∷ rest)) ≡ apart p (before ++ rest)
drop-one p x e [] rest = if-false (not (is_at_or_below p x.path)) (x ∷ apart p rest) (apart p rest) (ap not e)
drop-one p x e (y ∷ before) rest = ap (λ ys. if not (is_at_or_below p y.path) then y ∷ ys else ys) (drop-one p x e before rest)

pub made-so : (mode : Mode) (ps : List Path) (t u : Tree) → away_from ps (printed mode u) ≡ away_from ps (printed mode t) → StaysSteady mode t u
    → SlotsAreWellMade u.slots → StaysButAt mode ps t u
made-so mode ps t u others steady made =
    record {
      others = others;
      text = λ is_open.
          ap (λ r. print_of_statements mode is_open (record u { root = r }) (printed mode u)) steady.0
          ∙ ap (λ r. print_of_statements mode is_open (record t { slots = u.slots; trailing = r }) (printed mode u)) steady.1;
      steady = steady;
      made = made;
    }

prefix-kept : (b : Option Text) (d : Decor) → (with_comment_after b d).prefix ≡ d.prefix
prefix-kept None d = refl
prefix-kept (Some t) d = refl

or-false-left : (a b : Bool) → (a || b) ≡ false → a ≡ false
or-false-left false b h = refl
or-false-left true b h = absurd cc

or-false-right : (a b : Bool) → (a || b) ≡ false → b ≡ false
or-false-right false b h = h
or-false-right true b h = absurd cc

not-false-is : (b : Bool) → not b ≡ false → b ≡ true
not-false-is true h = refl
not-false-is false h = absurd cc

or-taken : (a b : Bool) → a ≡ false → (a || b) ≡ true → b ≡ true
or-taken true b e h = absurd cc
or-taken false b e h = h

module _ (mode : Mode) (t : Tree) (path : List Text) (made : SlotsAreWellMade t.slots) (steady : is_steady_in mode t ≡ true)
    (f : TableFields) (ss : Slots) (x : Turned t path f ss) (b : Option Text) where
  abbrev v : Visit
  v = x.visit

  abbrev d : Decor
  d = with_comment_after b v.fields.decor

  abbrev u : Tree
  u = edited x.way (header_edited x.turn d) t

  steady-table : IsSteadyTable mode v
  steady-table =
      let e = entered t (x.way ++ (x.turn ∷ [])) v made (leads-join x.way (x.turn ∷ []) (root_visit t) x.from v x.leads x.turns) in
      let all = subst (λ vs. AllByRecursion (IsSteadyTable mode) vs) e.2 (steady-parts mode t steady).tables in
      (all-back (IsSteadyTable mode) e.0 (v ∷ e.1) all).0

  well : SlotsAreWellMade u.slots
  well = header_recommented_stays_made t x.way x.from v x.turn d made x.leads x.turns

  by_header : (c : Bool) → (v.fields.is_dotted || not (has_header mode v)) ≡ c → StaysButAt mode (x.place ∷ []) t u
  by_header true h =
      let law = hidden_recommented mode t x.way x.from v x.turn d made steady x.leads x.turns h in
      made-so mode (x.place ∷ []) t u (ap (apart x.place) law.0) law.2 well
  by_header false h =
      let undotted = or-false-left v.fields.is_dotted (not (has_header mode v)) h in
      let has = not-false-is (has_header mode v) (or-false-right v.fields.is_dotted (not (has_header mode v)) h) in
      let header : has_steady_header v ≡ true = or-taken (v.fields.is_dotted || not (has_header mode v)) (has_steady_header v) h steady-table in
      let own : has_own_prefix v.fields.decor.prefix ≡ true =
      and_right (is_some v.fields.position) (has_own_prefix v.fields.decor.prefix)
      (and_left (is_some v.fields.position && has_own_prefix v.fields.decor.prefix) (v.is_element || not v.fields.is_implicit) header) in
      let law = header_recommented mode t x.way x.from v x.turn d made steady x.leads x.turns undotted has
      (ap has_own_prefix (prefix-kept b v.fields.decor) ∙ own) in
      made-so mode (x.place ∷ []) t u
      (ap (apart x.place) law.0.second ∙ drop-one x.place (header_line mode (visit_with d v)) x.above law.0.before law.0.after
      ∙ sym (ap (apart x.place) law.0.first ∙ drop-one x.place (header_line mode v) x.above law.0.before law.0.after))
      law.1 well

  header-stays : (r : Tree) → replaced_at path (table (record f { decor = with_comment_after b f.decor }) ss) t ≡ done r → StaysAt mode t r path
  header-stays r put =
      let is : r ≡ edited x.way (header_edited x.turn (with_comment_after b f.decor)) t = x.left r (with_comment_after b f.decor) put in
      let same : r ≡ u = is ∙ ap (λ (g : TableFields). edited x.way (header_edited x.turn (with_comment_after b g.decor)) t) (sym x.fields) in
      subst (λ (q : Path). StaysButAt mode (q ∷ []) t r) (sym x.is)
      (subst (StaysButAt mode (x.place ∷ []) t) (sym same) (by_header (v.fields.is_dotted || not (has_header mode v)) refl))

-- the place of the path itself
pub within-at : (mode : Mode) (t u : Tree) (path : List Text) → StaysWithin mode t u path → StaysAt mode t u path
within-at mode t u path h = subst (λ (q : List Text). StaysButAt mode (place_of t q ∷ []) t u) (append-nil path) (h [])

-- ---- the law

module _ (mode : Mode) (t u : Tree) (k : Text) (rest : List Text) (b : Option Text) (made : SlotsAreWellMade t.slots)
    (steady : is_steady_in mode t ≡ true) where
  abbrev path : List Text
  path = k ∷ rest

  in-table : (f : TableFields) (ss : Slots) → SlotsAreWellMade ss → replaced_at path (table (record f { decor = with_comment_after b f.decor }) ss) t ≡ done u
      → Turned t path f ss ⊎ InsideValue mode t path → StaysAt mode t u path
  in-table f ss w put (inl x) = header-stays mode t path made steady f ss x b u put
  in-table f ss w put (inr x) = within-at mode t u path (x u (table (record f { decor = with_comment_after b f.decor }) ss) w put)

  abbrev after : Node → Node
  after n = with_decor (with_comment_after b (node_decor n)) n

  by_node : (n m : Node) → IsWellMade n → item_at path t ≡ Some n → IsCommented b n m → replaced_at path m t ≡ done u → StaysAt mode t u path
  by_node (table f ss) m w there is put =
      in-table f ss w (ap (λ x. replaced_at path x t) (sym is) ∙ put) (table-turned mode t made steady k rest f ss there)
  by_node (leaf s r d) m w there is put =
      within-at mode t u path (value-stays mode t u path (leaf s r d) (after (leaf s r d)) made steady there refl (λ _. refl) w
      (ap (λ x. replaced_at path x t) (sym is) ∙ put))
  by_node (list f xs) m w there is put =
      within-at mode t u path (value-stays mode t u path (list f xs) (after (list f xs)) made steady there refl (λ _. refl) w
      (ap (λ x. replaced_at path x t) (sym is) ∙ put))
  by_node (inline f ss) m w there is put =
      within-at mode t u path (value-stays mode t u path (inline f ss) (after (inline f ss)) made steady there refl (λ undotted. ap not undotted) w
      (ap (λ x. replaced_at path x t) (sym is) ∙ put))
  by_node (tables e xs) m w there is put = absurd is
  by_node nothing m w there is put = absurd is

pub commented-stays : (mode : Mode) → CommentedStays mode
commented-stays mode t u [] n m b made steady there is put = absurd cc
commented-stays mode t u (k ∷ rest) n m b made steady there is put =
    by_node mode t u k rest b made steady n m (below-made (k ∷ rest) (root_item t) n made there) there is put
