-- Paths to the root, and to a table under a named one.
use Rattle.std.proofs.Common.{◌≡◌, refl, sym, ◌∙◌, ap, subst, true, false, List, [], ◌∷◌, ◌++◌, Some}
use Rattle.toml_edit_model.specs.Text.{Text}
use Rattle.toml_edit_model.specs.Paths.{Path, to_key, to_element}
use Rattle.toml_edit_model.specs.Tree.{Key, TableFields, table, Slots, Tree}
use Rattle.toml_edit_model.specs.HeaderOrder.{Visit, visit_of}
use Rattle.toml_edit_model.specs.Slots.{keyed, lookup_slot}
use Rattle.toml_edit_model.specs.Lists.{slot_list}
use Rattle.toml_edit_laws.specs.Locality.{Turn, into_table, into_element, Leads, root_visit, element_count}
use Rattle.toml_edit_edit_laws.specs.CommandLaws.{Goes}
use Rattle.toml_edit_edit_laws.specs.Commands.{done}
use Rattle.toml_edit_edit_laws.specs.PathEdits.{AreDone, CallMeans, PathCall, all_called, answer_and_then, called, places_of_call, OneCallMore, RootIsNamed, TablesAreNamed}

pub root_is_named : RootIsNamed
root_is_named t = record { way = []; goes = tt; leads = refl }

goes-on : (way : List Turn) (path : List Text) (k : Text) → Goes way path → Goes (way ++ (into_table k ∷ [])) (path ++ (k ∷ []))
goes-on [] [] k h = (refl, tt)
goes-on [] (j ∷ path) k h = absurd h
goes-on (into_table i ∷ way) [] k h = absurd h
goes-on (into_table i ∷ way) (j ∷ path) k h = (h.0, goes-on way path k h.1)
goes-on (into_element i n ∷ way) [] k h = absurd h
goes-on (into_element i n ∷ way) (j ∷ []) k h = absurd h
goes-on (into_element i n ∷ way) (j ∷ x ∷ path) k h = (h.0, h.1, goes-on way path k h.2)

leads-on : (way : List Turn) (s v : Visit) (k : Text) (l : Key) (f : TableFields) (ss : Slots) → Leads way s v
    → lookup_slot k (slot_list v.slots) ≡ Some (keyed l (table f ss))
    → Leads (way ++ (into_table k ∷ [])) s (visit_of (to_key v.path l.name) (v.keys ++ (l ∷ [])) false f ss)
leads-on [] s v k l f ss e there = (
  l,
  f,
  ss,
  ap (λ (x : Visit). lookup_slot k (slot_list x.slots)) e ∙ there,
  ap (λ (x : Visit). visit_of (to_key x.path l.name) (x.keys ++ (l ∷ [])) false f ss) e,
)
leads-on (into_table j ∷ way) s v k l f ss (m, g, ys, eq, rest) there =
    (m, g, ys, eq, leads-on way (visit_of (to_key s.path m.name) (s.keys ++ (m ∷ [])) false g ys) v k l f ss rest there)
leads-on (into_element j i ∷ way) s v k l f ss (m, e, xs, before, g, ys, after, eq, items, place, rest) there = (
  m,
  e,
  xs,
  before,
  g,
  ys,
  after,
  eq,
  items,
  place,
  leads-on way (visit_of (to_element (to_key s.path m.name) (element_count before)) (s.keys ++ (m ∷ [])) true g ys) v k l f ss rest there,
)

pub tables_are_named : TablesAreNamed
tables_are_named t path v k l f ss n there =
    record {
      way = n.way ++ (into_table k ∷ []);
      goes = goes-on n.way path k n.goes;
      leads = leads-on n.way (root_visit t) v k l f ss n.leads there;
    }

-- ---- calls after calls

pub one_call_more : OneCallMore
one_call_more [] [] t u w c p is is_done at means =
    (w, subst (λ x. called c x ≡ done w) is is_done, at ∙ ap (places_of_call c) is, subst (λ x. CallMeans c x w) is means, refl)
one_call_more [] (q ∷ ps) t u w c p is is_done at means = absurd is
one_call_more (d ∷ cs) [] t u w c p is is_done at means = absurd is
one_call_more (d ∷ cs) (q ∷ ps) t u w c p (m, first, here, meant, rest) is_done at means =
    (m, first, here, meant, one_call_more cs ps m u w c p rest is_done at means)

-- what is done call by call, the fold does
pub all_are_called : (cs : List PathCall) (pss : List (List Path)) (t w : Tree) → AreDone cs pss t w → all_called cs t ≡ done w
all_are_called [] [] t w is = ap done (sym is)
all_are_called [] (ps ∷ pss) t w is = absurd is
all_are_called (c ∷ cs) [] t w is = absurd is
all_are_called (c ∷ cs) (ps ∷ pss) t w (u, first, here, means, rest) =
    ap (answer_and_then (all_called cs)) first ∙ all_are_called cs pss u w rest
