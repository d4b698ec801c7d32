-- What a loop over the statements of a document does: it stops at the first faulty one, by its faults, and else ends with the tree.
use Rattle.std.proofs.Common.{◌≡◌, refl, sym, ◌∙◌, ap, subst, Bool, true, false, List, [], ◌∷◌, ◌++◌, append_assoc, Option, Some, None, inl}
use Rattle.std.specs.Prelude.{not, is_some}
use Rattle.toml_edit_model.specs.Mode.{Mode}
use Rattle.toml_edit_model.specs.Text.{is_empty, one}
use Rattle.toml_edit_model.specs.Syntax.{Statement, Document, IsDocument}
use Rattle.toml_edit_model.specs.Paths.{Mention, Source, Placed}
use Rattle.toml_edit_model.specs.Accepted.{is_accepted}
use Rattle.toml_edit_model.specs.Faults.{Fault, own_faults, faults_in}
use Rattle.toml_edit_model.specs.Tree.{Node, Slots}
use Rattle.toml_edit_model.specs.TreeOf.{spanned_in, IsTreeOf}
use Rattle.toml_edit_laws.specs.OneByOne.{is_right_after}
use Rattle.toml_edit_laws.specs.TableClash.{table_way_fault, table_way_faults}
use Rattle.toml_edit_laws.specs.Building.{slots_along, context_behind, done_places, next_place, Builder, first_builder, added, clash_at}
use Rattle.toml_edit_laws.specs.Building.{faults_at, behind, built_tree, IsStatementNode, IsBehind, StandsBefore}
use Rattle.toml_edit_laws.specs.Building.{run_on, run, AreStatementNodes, EndsAt, Ends, Runs}
use Rattle.toml_edit_laws.proofs.common.Tests.{append-nil}
use Rattle.toml_edit_laws.proofs.common.Members.{Among}
use Rattle.toml_edit_laws.proofs.values.ValueFaults.{is_empty-nil}
use Rattle.toml_edit_laws.proofs.clashes.ClashContext.{HasKey, keyed_statements}
use Rattle.toml_edit_laws.proofs.clashes.ClashFirst.{right-none, stops}
use Rattle.toml_edit_laws.proofs.building.Places.{done_all, first_wrong}
use Rattle.toml_edit_laws.proofs.building.Loop.{keyed-front, here-faults, building_laws}
use Rattle.toml_edit_laws.proofs.clashes.BlockClash.{block_found}
use Rattle.toml_edit_laws.proofs.mentions.Placed.{mentions_in}
use Rattle.std.specs.List.{AllByRecursion}

module _ (mode : Mode) where
  -- ---- one loop invariant: the builder stands before the statements that are left

  -- It does before the first,
  pub stands_first : (d : Document) → IsDocument d → StandsBefore mode d d.statements (first_builder d.has_mark)
  stands_first d h = record { done = []; split = refl; behind = (building_laws mode d h).first }

  -- and behind one that is added.
  pub stands_next : (d : Document) (s : Statement) (rest : List Statement) (b : Builder) (n : Node) (next : Slots) → IsDocument d
      → StandsBefore mode d (s ∷ rest) b
      → own_faults b.start s ≡ [] → IsStatementNode mode b.start s n → added mode b s n ≡ Some next
      → StandsBefore mode d rest (behind b s next)
  stands_next d s rest b n next h at faultless value e =
      record {
        done = at.done ++ one s;
        split = at.split ∙ sym (append_assoc at.done (one s) rest);
        behind = ((building_laws mode d h).step at.done s rest b at.split at.behind).keeps n next faultless value e;
      }

  -- Behind the last the document is accepted, and its tree is there.
  pub stands_last : (d : Document) (b : Builder) → IsDocument d → StandsBefore mode d [] b → (is_accepted d ≡ true)
      × IsTreeOf (spanned_in mode) d (built_tree mode d b)
  stands_last d b h at =
      (building_laws mode d h).last b (subst (λ ss. IsBehind mode d ss b) (sym (at.split ∙ append-nil at.done)) at.behind)

  -- One of both holds of each.
  pub stands_goes : (d : Document) (s : Statement) (rest : List Statement) (b : Builder) (n : Node) → IsDocument d
      → StandsBefore mode d (s ∷ rest) b
      → is_some (added mode b s n) ≡ not (is_some (clash_at b s))
  stands_goes d s rest b n h at = ((building_laws mode d h).step at.done s rest b at.split at.behind).goes n

  -- So is that of the last block, whatever is left.
  pub stands_block : (d : Document) (rest : List Statement) (b : Builder) → IsDocument d → StandsBefore mode d rest b
      → (inner : Slots) × (slots_along b.block b.slots ≡ Some inner)
  stands_block d rest b h at =
      let keyed = keyed-front at.done rest (subst (AllByRecursion HasKey) at.split (keyed_statements d.final d.statements h.0)) in
      let are = done_all d at.done keyed at.behind.right in
      let block = block_found mode (context_behind d at.done).block (mentions_in (done_places d at.done)) b.slots are.clash.statements
      at.behind.slots are.block in
      (block.inner, ap (λ ks. slots_along ks b.slots) at.behind.block ∙ block.found)

  -- ---- the run

  -- the statement at which it stops
  ends-at : (d : Document) (s : Statement) (rest : List Statement) (b : Builder) (f : Fault) (fs : List Fault) → IsDocument d
      → StandsBefore mode d (s ∷ rest) b
      → faults_at b s ≡ f ∷ fs → EndsAt d s rest b
  ends-at d s rest b f fs h at has = by_right (is_right_after earlier here) refl
    where
      done : List Statement
      done = at.done

      earlier : List Placed
      earlier = done_places d at.done

      here : Placed
      here = next_place d at.done s

      faults : faults_in (done_places d at.done) (next_place d at.done s) ≡ f ∷ fs
      faults = here-faults mode d at.done s rest (keyed_statements d.final d.statements h.0) at.split b at.behind ∙ has

      by_right : (x : Bool) → is_right_after (done_places d at.done) (next_place d at.done s) ≡ x → EndsAt d s rest b
      by_right true r = (let none : [] ≡ f ∷ fs = sym (right-none (done_places d at.done) (next_place d at.done s) r) ∙ faults in absurd cc)
      by_right false r =
          record {
            done = at.done;
            split = at.split;
            first = first_wrong d at.done s rest at.split at.behind.right r;
            faults = here-faults mode d at.done s rest (keyed_statements d.final d.statements h.0) at.split b at.behind;
            refused = (stops d at.done s rest f at.split at.behind.right r (subst (Among f) (sym faults) (inl refl))).0;
          }

  run-ends : (d : Document) (rest : List Statement) (ns : List Node) (b : Builder) → IsDocument d → StandsBefore mode d rest b
      → AreStatementNodes mode b.start rest ns
      → Ends mode d (run mode b rest ns)
  run-ends d [] [] b h at nodes = stands_last d b h at
  run-ends d [] (n ∷ ns) b h at nodes = absurd nodes
  run-ends d (s ∷ rest) [] b h at nodes = absurd nodes
  run-ends d (s ∷ rest) (n ∷ ns) b h at nodes =
      by_own (is_empty (own_faults b.start s)) refl (added mode b s n) refl
      (λ next behind_s. run-ends d rest ns (behind b s next) h behind_s nodes.1)
    where
      clash-some : (o : Option (Mention Source × Node)) → false ≡ not (is_some o) → (x : Mention Source × Node) × (o ≡ Some x)
      clash-some None e = absurd cc
      clash-some (Some x) e = (x, refl)

      some-fault : (fs : List Fault) → is_empty fs ≡ false → (f : Fault) × (more : List Fault) × (fs ≡ f ∷ more)
      some-fault [] e = absurd cc
      some-fault (f ∷ more) e = (f, more, refl)

      by_own : (o : Bool) → is_empty (own_faults b.start s) ≡ o → (a : Option Slots) → added mode b s n ≡ a
          → ((next : Slots) → StandsBefore mode d rest (behind b s next) → Ends mode d (run mode (behind b s next) rest ns))
          → Ends mode d (run_on (λ ss. run mode (behind b s ss) rest ns) (b, s ∷ rest) o a)
      by_own true own (Some next) e ih =
          let none = is_empty-nil (own_faults b.start s) own in
          ih next (stands_next d s rest b n next h at none (nodes.0 none) e)
      by_own true own None e ih =
          let found = clash-some (clash_at b s) (ap is_some (sym e) ∙ stands_goes d s rest b n h at) in
          ends-at d s rest b (table_way_fault found.0) [] h at
          (ap (λ fs. fs ++ table_way_faults (clash_at b s)) (is_empty-nil (own_faults b.start s) own) ∙ ap table_way_faults found.1)
      by_own false own a e ih =
          let (f, more, is) = some-fault (own_faults b.start s) own in
          ends-at d s rest b f (more ++ table_way_faults (clash_at b s)) h at (ap (λ fs. fs ++ table_way_faults (clash_at b s)) is)

  -- A run stops exactly at the first faulty statement, by its faults, and else ends with the tree of the text.
  pub run_ends : Runs mode
  run_ends d ns h nodes = run-ends d d.statements ns (first_builder d.has_mark) h (stands_first d h) nodes
