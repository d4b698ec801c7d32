-- Building goes on statement by statement up to the first faulty one, and behind the last it has the tree.
use Rattle.std.proofs.Common.{◌≡◌, refl, sym, ◌∙◌, ap, subst, ℕ, Bool, true, false, List, [], ◌∷◌, ◌++◌, Option, Some, None, inl}
use Rattle.std.specs.Prelude.{not, ◌&&◌, is_some, Contains}
use Rattle.std.specs.List.{AllByRecursion, list_all}
use Rattle.toml_edit_model.specs.Mode.{Mode}
use Rattle.toml_edit_model.specs.Text.{one}
use Rattle.toml_edit_model.specs.Syntax.{Statement, key_line, header, Document}
use Rattle.toml_edit_model.specs.Paths.{Mention, Source, Placed, Context, source_of, mentions_of, start_context}
use Rattle.toml_edit_model.specs.Accepted.{agree, is_sound, is_accepted}
use Rattle.toml_edit_model.specs.Faults.{Fault, own_faults, faults_in}
use Rattle.toml_edit_model.specs.Tree.{Node, Slots}
use Rattle.toml_edit_model.specs.TreeOf.{spanned_in, IsTreeOf}
use Rattle.toml_edit_laws.specs.OneByOne.{is_right_after, all_right_after}
use Rattle.toml_edit_laws.specs.TableTree.{add_statement}
use Rattle.toml_edit_laws.specs.TableClash.{table_way_fault, table_way_faults}
use Rattle.toml_edit_laws.specs.Building.{slots_along, context_behind, done_places, next_place, Builder, added, clash_at, faults_at, behind}
use Rattle.toml_edit_laws.specs.Building.{built_tree, IsStatementNode, IsBehind, Stops, IsStep, Building}
use Rattle.toml_edit_laws.proofs.common.Tests.{and_both, and-true}
use Rattle.std.proofs.Math.Bool.{and-false}
use Rattle.toml_edit_laws.proofs.common.Members.{Among, among-left, among-right, from-contained, to-contained}
use Rattle.toml_edit_laws.proofs.clashes.ClashContext.{HasKey, keyed_statements, agree-each}
use Rattle.toml_edit_laws.proofs.clashes.ClashFirst.{sound-none, right-append, stops}
use Rattle.toml_edit_laws.proofs.clashes.BlockClash.{block_found}
use Rattle.toml_edit_laws.proofs.building.Conditions.{AreDone}
use Rattle.toml_edit_laws.proofs.building.Statement.{statement_clash, statement_goes, statement_added, statement_agrees, statement_fault}
use Rattle.toml_edit_laws.proofs.building.Places.{done_all, context-more, places-more, mentions-more, first_wrong, sound-of-none}
use Rattle.toml_edit_laws.proofs.building.Steps.{IsIn, builder_in, is_builder, in-next, node-in, added_is, clash_is, none-by-faults}
use Rattle.toml_edit_laws.proofs.mentions.Placed.{mentions_in}
use Rattle.toml_edit_laws.proofs.adding.HeaderSlots.{AreAllSlots}
use Rattle.toml_edit_laws.proofs.common.OptionSteps.{is_none}
use Rattle.toml_edit_laws.proofs.one_by_one.Together.{right-accepted}
use Rattle.toml_edit_model.specs.Roles.{may_meet}

-- ---- keys

pub keyed-front : (xs ys : List Statement) → AllByRecursion HasKey (xs ++ ys) → AllByRecursion HasKey xs
keyed-front [] ys h = tt
keyed-front (x ∷ xs) ys h = (h.0, keyed-front xs ys h.1)

keyed-back : (xs ys : List Statement) → AllByRecursion HasKey (xs ++ ys) → AllByRecursion HasKey ys
keyed-back [] ys h = h
keyed-back (x ∷ xs) ys h = keyed-back xs ys h.1

-- ---- one step

key-of : (d : Document) (done : List Statement) (s : Statement) (rest : List Statement) → AllByRecursion HasKey d.statements → d.statements
    ≡ done ++ (s ∷ rest) → HasKey s
key-of d done s rest keyed is = (keyed-back done (s ∷ rest) (subst (AllByRecursion HasKey) is keyed)).0

none-not : {A : Type 0} (o : Option A) → is_none o ≡ not (is_some o)
none-not None = refl
none-not (Some a) = refl

-- what stands in a statement, behind these
abbrev faults-here : Document → List Statement → Statement → Slots → List Fault
faults-here d done s ss = own_faults (context_behind d done).start s ++ table_way_faults (statement_clash (context_behind d done) s ss)

unsound : (start : ℕ) (s : Statement) (f : Fault) → Among f (own_faults start s) → is_sound s ≡ false
unsound start s f among = by_sound (is_sound s) refl
  where
    by_sound : (b : Bool) → is_sound s ≡ b → b ≡ false
    by_sound true e = absurd (subst (Among f) (sound-none start s e) among)
    by_sound false e = refl

module _ (mode : Mode) where
  conditions : (d : Document) (done : List Statement) (s : Statement) (rest : List Statement) → AllByRecursion HasKey d.statements
      → d.statements ≡ done ++ (s ∷ rest)
      → (b : Builder) → IsBehind mode d done b → AreDone (context_behind d done) (mentions_in (done_places d done))
  conditions d done s rest keyed is b h = done_all d done (keyed-front done (s ∷ rest) (subst (AllByRecursion HasKey) is keyed)) h.right

  its-statement : (c : Context) (s : Statement) → (source_of c s).statement ≡ s
  its-statement c (key_line f v end) = refl
  its-statement c (header h end) = refl

  -- it is right where it is sound and agrees
  right-is : (d : Document) (done : List Statement) (s : Statement)
      → is_right_after (done_places d done) (next_place d done s)
      ≡ (is_sound s && agree may_meet (mentions_in (done_places d done)) (mentions_of (context_behind d done) s))
  right-is d done s =
      ap (λ t. is_sound t && list_all (λ (e : Placed). agree may_meet e.mentions (mentions_of (context_behind d done) s))
      (done_places d done))
      (its-statement (context_behind d done) s)
      ∙ ap (λ b. is_sound s && b) (agree-each (done_places d done) (mentions_of (context_behind d done) s))

  module _ (d : Document) (done : List Statement) (s : Statement) (rest : List Statement) (keyed : AllByRecursion HasKey d.statements)
      (is : d.statements ≡ done ++ (s ∷ rest)) (b : Builder) (behind_done : IsBehind mode d done b) where
    -- the context, and the mentions up to here
    abbrev c : Context
    c = context_behind d done

    abbrev ms : List (Mention Source)
    ms = mentions_in (done_places d done)

    has-key : HasKey s
    has-key = key-of d done s rest keyed is

    are-done : AreDone c ms
    are-done = conditions d done s rest keyed is b behind_done

    builder-is : b ≡ builder_in c b.slots
    builder-is = is_builder c b (record { start = behind_done.start; headers = behind_done.headers; block = behind_done.block })

    -- what it adds, and what is in the way
    here-added : (n : Node) → added mode b s n ≡ add_statement mode c s n b.slots
    here-added n = ap (λ x. added mode x s n) builder-is ∙ added_is mode c s ms n b.slots are-done behind_done.slots

    pub here-clash : table_way_faults (clash_at b s) ≡ table_way_faults (statement_clash c s b.slots)
    here-clash = ap (λ x. table_way_faults (clash_at x s)) builder-is ∙ clash_is mode c s ms b.slots are-done behind_done.slots

    here-agrees : agree may_meet ms (mentions_of c s) ≡ is_none (clash_at b s)
    here-agrees =
        statement_agrees mode c s ms b.slots are-done behind_done.slots
        ∙ sym (none-by-faults (clash_at b s) (statement_clash c s b.slots) here-clash)

    -- a wrong statement stops it
    stopped : (f : Fault) → is_right_after (done_places d done) (next_place d done s) ≡ false → Among f (faults-here d done s b.slots)
        → Stops d done s f
    stopped f wrong among =
        let faults = statement_fault mode c s (done_places d done) b.slots are-done behind_done.slots in
        let found = stops d done s rest f is behind_done.right wrong (subst (Among f) (sym faults) among) in
        record {
          first = first_wrong d done s rest is behind_done.right wrong;
          names = record {
            earlier = done_places d done;
            statement = next_place d done s;
            first = first_wrong d done s rest is behind_done.right wrong;
            stands = to-contained f (faults_in (done_places d done) (next_place d done s)) (subst (Among f) (sym faults) among);
          };
          refused = found.0;
        }

    own-stops : (f : Fault) → Contains (own_faults b.start s) f → Stops d done s f
    own-stops f has =
        let among : Among f (own_faults c.start s) =
        subst (λ n. Among f (own_faults n s)) behind_done.start (from-contained f (own_faults b.start s) has) in
        stopped f
        (right-is d done s ∙ ap (λ x. x && agree may_meet ms (mentions_of c s)) (unsound c.start s f among))
        (among-left f (own_faults c.start s) (table_way_faults (statement_clash c s b.slots)) among)

    clash-stops : (x : Mention Source × Node) → clash_at b s ≡ Some x → Stops d done s (table_way_fault x)
    clash-stops x e =
        let one_fault : table_way_faults (statement_clash c s b.slots) ≡ table_way_fault x ∷ [] = sym here-clash ∙ ap table_way_faults e in
        stopped (table_way_fault x)
        (right-is d done s ∙ ap (λ y. is_sound s && y) (here-agrees ∙ ap is_none e) ∙ and-false (is_sound s))
        (among-right (table_way_fault x) (own_faults c.start s) (table_way_faults (statement_clash c s b.slots))
        (subst (Among (table_way_fault x)) (sym one_fault) (inl refl)))

    block-there : (inner : Slots) × (slots_along b.block b.slots ≡ Some inner)
    block-there =
        let block = block_found mode c.block ms b.slots are-done.clash.statements behind_done.slots are-done.block in
        (block.inner, ap (λ ks. slots_along ks b.slots) behind_done.block ∙ block.found)

    -- all that stand in it are those that the builder can name
    pub here-faults : faults_in (done_places d done) (next_place d done s) ≡ faults_at b s
    here-faults =
        statement_fault mode c s (done_places d done) b.slots are-done behind_done.slots
        ∙ ap (λ n. own_faults n s ++ table_way_faults (statement_clash c s b.slots)) (sym behind_done.start)
        ∙ ap (λ fs. own_faults b.start s ++ fs) (sym here-clash)

    goes-on : (n : Node) → is_some (added mode b s n) ≡ is_none (clash_at b s)
    goes-on n =
        ap is_some (here-added n) ∙ statement_goes mode c s ms n b.slots has-key are-done behind_done.slots ∙ here-agrees

    keeps-behind : (n : Node) (next : Slots) → own_faults b.start s ≡ [] → IsStatementNode mode b.start s n → added mode b s n ≡ Some next
        → IsBehind mode d (done ++ one s) (behind b s next)
    keeps-behind n next faultless value e =
        let sound : is_sound s ≡ true = sound-of-none b.start s faultless in
        let into : add_statement mode c s n b.slots ≡ Some next = sym (here-added n) ∙ e in
        let agreed : agree may_meet ms (mentions_of c s) ≡ true =
        sym (statement_goes mode c s ms n b.slots has-key are-done behind_done.slots) ∙ ap is_some into in
        let right : is_right_after (done_places d done) (next_place d done s) ≡ true = right-is d done s
        ∙ and_both (is_sound s) (agree may_meet ms (mentions_of c s)) sound agreed in
        let node = node-in mode c s n (subst (λ x. IsStatementNode mode x s n) behind_done.start value) in
        let slots : AreAllSlots mode (ms ++ mentions_of c s) next =
        statement_added mode c s ms n b.slots next are-done node behind_done.slots into in
        let after : IsIn (context_behind d (done ++ one s)) (behind b s next) =
        subst (λ k. IsIn k (behind b s next)) (sym (context-more (start_context d) done s))
        (in-next c s b next (record { start = behind_done.start; headers = behind_done.headers; block = behind_done.block })) in
        record {
          right =
              ap (all_right_after []) (places-more d done s)
              ∙ right-append [] (done_places d done) (one (next_place d done s))
              ∙ ap (λ x. x && (is_right_after (done_places d done) (next_place d done s) && true)) behind_done.right
              ∙ and-true (is_right_after (done_places d done) (next_place d done s))
              ∙ right;
          start = after.start;
          headers = after.headers;
          block = after.block;
          slots = subst (λ us. AreAllSlots mode us next) (sym (mentions-more d done s)) slots;
        }

  -- ---- a document

  pub one-step : (d : Document) → AllByRecursion HasKey d.statements
      → (done : List Statement) (s : Statement) (rest : List Statement) (b : Builder) → d.statements ≡ done ++ (s ∷ rest)
      → IsBehind mode d done b
      → IsStep mode d done s b
  one-step d keyed done s rest b is h =
      record {
        faulty = own-stops d done s rest keyed is b h;
        clashes = clash-stops d done s rest keyed is b h;
        goes = λ n. goes-on d done s rest keyed is b h n ∙ none-not (clash_at b s);
        there = block-there d done s rest keyed is b h;
        keeps = keeps-behind d done s rest keyed is b h;
      }

  pub all-behind : (d : Document) (b : Builder) → IsBehind mode d d.statements b → (is_accepted d ≡ true)
      × IsTreeOf (spanned_in mode) d (built_tree mode d b)
  all-behind d b h = (right-accepted d h.right, record { root = refl; slots = h.slots; trailing = refl })

  -- Building stops exactly at the first faulty statement, and else gives the tree of the text.
  pub building_laws : Building mode
  building_laws d h =
      record {
        first = record { right = refl; start = refl; headers = refl; block = refl; slots = tt };
        step = one-step d (keyed_statements d.final d.statements h.0);
        last = all-behind d;
      }
