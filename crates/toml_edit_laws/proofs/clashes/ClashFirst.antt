-- A statement that can't be added to the slots of the right statements before it is the first faulty one, and its fault is among those
-- that are named.
use Rattle.std.proofs.Common.{◌≡◌, refl, sym, ◌∙◌, ap, subst, ℕ, ◌+◌, Bool, true, false, List, [], ◌∷◌, ◌++◌, append_assoc, length, Option}
use Rattle.std.proofs.Common.{Some, None}
use Rattle.std.specs.Prelude.{◌&&◌, nat_le}
use Rattle.std.specs.List.{list_all}
use Rattle.std.proofs.Math.Bool.{and-false}
use Rattle.toml_edit_model.specs.Syntax.{Segment, Statement, key_line, header, Document, path_text, depth}
use Rattle.toml_edit_model.specs.Syntax.{nesting_limit, is_short, has_short_keys, keeps_ranges}
use Rattle.toml_edit_model.specs.Paths.{Placed, Context, context_after, start_context}
use Rattle.toml_edit_model.specs.Paths.{placed_from, placed}
use Rattle.toml_edit_model.specs.Accepted.{agree, has_agreeing_pairs, is_sound, is_accepted}
use Rattle.toml_edit_model.specs.Faults.{Fault, first_clash, statement_clash, long_path, value_faults, own_faults, faults_in}
use Rattle.toml_edit_laws.specs.OneByOne.{is_right_after, all_right_after, first_faults}
use Rattle.toml_edit_laws.specs.Building.{context_from, context_behind, done_places}
use Rattle.toml_edit_laws.proofs.common.Tests.{and_left, and_right, and-assoc, append-nil}
use Rattle.toml_edit_laws.proofs.common.Members.{Among}
use Rattle.toml_edit_laws.proofs.values.ValueFaults.{is_empty-nil, is_right_value-faults}
use Rattle.toml_edit_laws.proofs.inline_tables.AgreeLaws.{agree-clash}
use Rattle.toml_edit_laws.proofs.clashes.ClashContext.{agree-each}
use Rattle.toml_edit_laws.proofs.mentions.Placed.{mentions_in, placed_at}
use Rattle.toml_edit_laws.proofs.common.OptionSteps.{is_none}
use Rattle.toml_edit_laws.proofs.one_by_one.Together.{accepted-is}
use Rattle.toml_edit_model.specs.Roles.{may_meet}

-- ---- right statements have no faults

long-none : (p : List Segment) → is_short p ≡ true → long_path p ≡ []
long-none p h = rw h refl

pub sound-none : (start : ℕ) (t : Statement) → is_sound t ≡ true → own_faults start t ≡ []
sound-none start (key_line f v end) h =
    let i = start + length f.leading + length (path_text f.path) + length f.before_equals + 1 + length f.after_equals in
    let parts = apart (is_short f.path) (nat_le (depth v) nesting_limit && has_short_keys v) (keeps_ranges v) (has_agreeing_pairs v) h in
    ap (λ fs. fs ++ value_faults v i 0) (long-none f.path parts.0) ∙ is_empty-nil (value_faults v i 0) (is_right_value-faults v i ∙ parts.1)
  where
    apart : (a b c d : Bool) → (((a && b) && c) && d) ≡ true → (a ≡ true) × (((b && c) && d) ≡ true)
    apart true b c d h = (refl, h)
    apart false b c d h = absurd cc
sound-none start (header h end) g = long-none h.path (and_left (is_short h.path) true (and_left (is_short h.path && true) true g))

pub right-none : (earlier : List Placed) (s : Placed) → is_right_after earlier s ≡ true → faults_in earlier s ≡ []
right-none earlier s h =
    let ms = mentions_in earlier in
    let each = list_all (λ (e : Placed). agree may_meet e.mentions s.mentions) earlier in
    let agreed : agree may_meet ms s.mentions ≡ true = sym (agree-each earlier s.mentions)
    ∙ and_right (is_sound s.source.statement) each h in
    ap (λ fs. fs ++ statement_clash (first_clash may_meet ms s.mentions))
    (sound-none s.source.start s.source.statement (and_left (is_sound s.source.statement) each h))
    ∙ ap statement_clash (none-is (first_clash may_meet ms s.mentions) (sym (agree-clash may_meet ms s.mentions) ∙ agreed))
  where
    none-is : {A : Type 0} (o : Option A) → is_none o ≡ true → o ≡ None
    none-is None h = refl
    none-is (Some a) h = absurd cc

-- ---- the first statement with faults

pub faults-pass : (earlier rest : List Placed) (s : Placed) → faults_in earlier s ≡ [] → first_faults earlier (s ∷ rest)
    ≡ first_faults (earlier ++ (s ∷ [])) rest
unfolding first_faults
faults-pass earlier rest s h = rw h refl

pub faults-stop : (earlier rest : List Placed) (s : Placed) (f : Fault) (fs : List Fault) → faults_in earlier s ≡ f ∷ fs
    → first_faults earlier (s ∷ rest) ≡ f ∷ fs
unfolding first_faults
faults-stop earlier rest s f fs h = rw h refl

pub first-after : (earlier done rest : List Placed) → all_right_after earlier done ≡ true → first_faults earlier (done ++ rest)
    ≡ first_faults (earlier ++ done) rest
first-after earlier [] rest h = ap (λ es. first_faults es rest) (sym (append-nil earlier))
first-after earlier (s ∷ done) rest h =
    let later = all_right_after (earlier ++ (s ∷ [])) done in
    faults-pass earlier (done ++ rest) s (right-none earlier s (and_left (is_right_after earlier s) later h))
    ∙ first-after (earlier ++ (s ∷ [])) done rest (and_right (is_right_after earlier s) later h)
    ∙ ap (λ es. first_faults es rest) (append_assoc earlier (s ∷ []) done)

pub first-among : (earlier rest : List Placed) (s : Placed) (f : Fault) → Among f (faults_in earlier s)
    → Among f (first_faults earlier (s ∷ rest))
first-among earlier rest s f h = by_faults (faults_in earlier s) refl h
  where
    by_faults : (fs : List Fault) → faults_in earlier s ≡ fs → Among f fs → Among f (first_faults earlier (s ∷ rest))
    by_faults [] e h = absurd h
    by_faults (g ∷ gs) e h = subst (Among f) (sym (faults-stop earlier rest s g gs e)) h

pub right-append : (earlier xs ys : List Placed) → all_right_after earlier (xs ++ ys)
    ≡ (all_right_after earlier xs && all_right_after (earlier ++ xs) ys)
right-append earlier [] ys = ap (λ es. all_right_after es ys) (sym (append-nil earlier))
right-append earlier (s ∷ xs) ys =
    ap (λ b. is_right_after earlier s && b)
    (right-append (earlier ++ (s ∷ [])) xs ys ∙ ap (λ es. all_right_after (earlier ++ (s ∷ [])) xs
    && all_right_after es ys) (append_assoc earlier (s ∷ []) xs))
    ∙ sym (and-assoc (is_right_after earlier s) (all_right_after (earlier ++ (s ∷ [])) xs) (all_right_after (earlier ++ (s ∷ xs)) ys))

-- ---- a statement among others

pub placed-append : (c : Context) (xs ys : List Statement) → placed_from c (xs ++ ys) ≡ placed_from c xs
    ++ placed_from (context_from c xs) ys
placed-append c [] ys = refl
placed-append c (s ∷ xs) ys = ap (λ ps. placed_at c s ∷ ps) (placed-append (context_after c s) xs ys)

-- A statement that isn't right after the right ones before it is the first faulty one, and what stands in it are the faults.
pub stops : (d : Document) (done : List Statement) (s : Statement) (rest : List Statement) (f : Fault) → d.statements ≡ done ++ (s ∷ rest)
    → all_right_after [] (done_places d done) ≡ true → is_right_after (done_places d done) (placed_at (context_behind d done) s) ≡ false
    → Among f (faults_in (done_places d done) (placed_at (context_behind d done) s)) → (is_accepted d ≡ false)
    × Among f (first_faults [] (placed d))
stops d done s rest f is right wrong among =
    let here = placed_at (context_behind d done) s in
    let later = placed_from (context_after (context_behind d done) s) rest in
    let all : placed d ≡ done_places d done ++ (here ∷ later) = ap (placed_from (start_context d)) is
    ∙ placed-append (start_context d) done (s ∷ rest) in (
      accepted-is d ∙ ap (all_right_after []) all
          ∙ right-append [] (done_places d done) (here ∷ later)
          ∙ ap (λ b. all_right_after [] (done_places d done) && (b && all_right_after (done_places d done ++ (here ∷ [])) later)) wrong
          ∙ and-false (all_right_after [] (done_places d done)),
      subst (λ ps. Among f (first_faults [] ps)) (sym all)
          (subst (Among f) (sym (first-after [] (done_places d done) (here ∷ later) right))
          (first-among (done_places d done) later here f among)),
    )
