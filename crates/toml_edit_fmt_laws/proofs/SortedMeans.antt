-- Lines of one table may change places: the document is accepted as it was, and has the same facts.
use Rattle.std.proofs.Common.{◌≡◌, refl, sym, ap, subst, ◌∙◌, inl, inr, Bool, true, false, List, [], ◌∷◌, ◌++◌}
use Rattle.std.specs.Prelude.{◌&&◌, ◌+◌, map}
use Rattle.std.specs.List.{list_all, list_any}
use Rattle.toml_edit_model.specs.Accepted.{agree, all_agree, is_sound_in, is_accepted}
use Rattle.toml_edit_model.specs.Meaning.{Fact, fact, a_table, statement_facts, facts_from, meaning}
use Rattle.toml_edit_model.specs.Paths.{Context, start_context, context_after, Mention, Source, Placed, placed_from, mentions_of, source_of, path_start}
use Rattle.toml_edit_model.specs.Roles.{may_meet}
use Rattle.toml_edit_model.specs.Syntax.{Statement, key_line, header, Frame, Value}
use Rattle.toml_edit_model.specs.Text.{Text}
use Rattle.toml_edit_model.specs.Version.{v1_1}
use Rattle.toml_edit_laws.proofs.common.Cores.{cores, line_cores, keys_of_segments}
use Rattle.toml_edit_laws.proofs.common.Members.{Among, among-left, among-right, among-cases, from-contained, to-contained}
use Rattle.toml_edit_laws.proofs.normal_texts.Agreeing.{agree-alike, all_agree-alike, agree-swap, meets-both, of-line}
use Rattle.toml_edit_laws.proofs.normal_texts.Cores.{line-cores}
use Rattle.toml_edit_laws.proofs.one_by_one.Together.{same_test}
use Rattle.toml_edit_fmt_laws.specs.Formatted.{start}
use Rattle.toml_edit_fmt_laws.specs.Sorted.{same_names, is_key_line, sorted_statements}
use Rattle.toml_edit_fmt_laws.specs.SortedPromises.{bare, SortedAcceptedAlike, SortedMeansTheSame}
use Rattle.toml_edit_fmt_laws.proofs.Accepts.{all-sound, all-cores}
use Rattle.toml_edit_fmt_laws.proofs.Bones.{skeleton}
use Rattle.toml_edit_fmt_laws.proofs.Means.{SameContext, statements-mean}
use Rattle.toml_edit_fmt_laws.proofs.SortedGroups.{statements-kept}

bare-bones : (ss : List Statement) → map skeleton (map bare ss) ≡ map skeleton ss
bare-bones [] = refl
bare-bones (s ∷ ss) = ap (λ x. x ∷ map skeleton (map bare ss)) (one s) ∙ ap (λ xs. skeleton s ∷ xs) (bare-bones ss)
  where
    one : (s : Statement) → skeleton (bare s) ≡ skeleton s
    one (key_line f v end) = refl
    one (header h end) = refl

-- after two lines, whichever is first
crossed : (c : Context) (a b : Statement) → is_key_line a ≡ true → is_key_line b ≡ true
    → SameContext (context_after (context_after c a) b) (context_after (context_after c b) a)
crossed c (key_line f v end) (key_line g w next) h k = (refl, refl)
crossed c (key_line f v end) (header g next) h k = absurd (let clash : false ≡ true = k in cc)
crossed c (header f end) b h k = absurd (let clash : false ≡ true = h in cc)

-- ---- the meaning

pub record SameAmong (fs gs : List Fact) : Type 0 where
  pub to : (f : Fact) → Among f fs → Among f gs
  pub from : (f : Fact) → Among f gs → Among f fs

MeansAlike : List Statement → List Statement → Type 0
MeansAlike xs ys = (c : Context) → SameAmong (facts_from c xs) (facts_from c ys)

among-behind : (f : Fact) (fs gs hs : List Fact) → (Among f gs → Among f hs) → Among f (fs ++ gs) → Among f (fs ++ hs)
among-behind f fs gs hs more m =
    elim (among-cases f fs gs m) [ inl l ↦ among-left f fs hs l | inr k ↦ among-right f fs hs (more k) ]

among-crossed : (f : Fact) (fs gs hs : List Fact) → Among f (fs ++ (gs ++ hs)) → Among f (gs ++ (fs ++ hs))
among-crossed f fs gs hs m =
    elim (among-cases f fs (gs ++ hs) m) [
      | inl l ↦ among-right f gs (fs ++ hs) (among-left f fs hs l)
      | inr k ↦
          elim (among-cases f gs hs k) [
            | inl l ↦ among-left f gs (fs ++ hs) l
            | inr n ↦ among-right f gs (fs ++ hs) (among-right f fs hs n)
          ]
    ]

means-same : (xs : List Statement) → MeansAlike xs xs
unfolding MeansAlike
means-same xs c = record { to = λ f m. m; from = λ f m. m }

means-chain : (xs ys zs : List Statement) → MeansAlike xs ys → MeansAlike ys zs → MeansAlike xs zs
unfolding MeansAlike
means-chain xs ys zs h g c = record { to = λ f m. (g c).to f ((h c).to f m); from = λ f m. (h c).from f ((g c).from f m) }

means-behind : (s : Statement) (xs ys : List Statement) → MeansAlike xs ys → MeansAlike (s ∷ xs) (s ∷ ys)
unfolding MeansAlike
means-behind s xs ys h c =
    let next = context_after c s in
    record {
      to = λ f m. among-behind f (statement_facts c s) (facts_from next xs) (facts_from next ys) ((h next).to f) m;
      from = λ f m. among-behind f (statement_facts c s) (facts_from next ys) (facts_from next xs) ((h next).from f) m;
    }

same-facts : (c e : Context) (ss : List Statement) → SameContext c e → facts_from c ss ≡ facts_from e ss
same-facts c e ss h = sym (statements-mean c c ss (refl, refl)) ∙ statements-mean c e ss h

-- a line says the same after another
line-facts : (c : Context) (a b : Statement) → is_key_line a ≡ true → is_key_line b ≡ true
    → statement_facts (context_after c a) b ≡ statement_facts c b
line-facts c (key_line f v end) (key_line g w next) h k = refl
line-facts c (key_line f v end) (header g next) h k = absurd (let clash : false ≡ true = k in cc)
line-facts c (header f end) b h k = absurd (let clash : false ≡ true = h in cc)

facts-crossed : (c : Context) (a b : Statement) (xs : List Statement) → is_key_line a ≡ true → is_key_line b ≡ true
    → (f : Fact) → Among f (facts_from c (a ∷ b ∷ xs)) → Among f (facts_from c (b ∷ a ∷ xs))
facts-crossed c a b xs h k f m =
    let rest = facts_from (context_after (context_after c a) b) xs in
    let one : facts_from c (a ∷ b ∷ xs) ≡ statement_facts c a ++ (statement_facts c b ++ rest) =
    ap (λ fs. statement_facts c a ++ (fs ++ rest)) (line-facts c a b h k) in
    let two : facts_from c (b ∷ a ∷ xs) ≡ statement_facts c b ++ (statement_facts c a ++ rest) =
    ap (λ fs. statement_facts c b ++ (fs ++ facts_from (context_after (context_after c b) a) xs)) (line-facts c b a k h)
    ∙ ap (λ fs. statement_facts c b ++ (statement_facts c a ++ fs)) (sym (same-facts _ _ xs (crossed c a b h k))) in
    subst (Among f) (sym two) (among-crossed f (statement_facts c a) (statement_facts c b) rest (subst (Among f) one m))

means-swap : (a b : Statement) (xs : List Statement) → is_key_line a ≡ true → is_key_line b ≡ true → MeansAlike (a ∷ b ∷ xs) (b ∷ a ∷ xs)
unfolding MeansAlike
means-swap a b xs h k c = record { to = λ f m. facts-crossed c a b xs h k f m; from = λ f m. facts-crossed c b a xs k h f m }

bare-facts : (c : Context) (ss : List Statement) → facts_from c (map bare ss) ≡ facts_from c ss
bare-facts c ss =
    sym (statements-mean c c (map bare ss) (refl, refl)) ∙ ap (facts_from c) (bare-bones ss) ∙ statements-mean c c ss (refl, refl)

pub sorted_means_the_same : SortedMeansTheSame
unfolding meaning MeansAlike
sorted_means_the_same r tables d f =
    let now = list_any (same_names []) tables in
    let c = start_context d in
    let ss = sorted_statements r tables [] now start d.statements in
    let alike = statements-kept MeansAlike means-same means-chain means-behind means-swap r tables [] now start d.statements tt c in
    let root = fact [] a_table in
    let to : (g : Fact) → Among g (facts_from c d.statements) → Among g (facts_from c ss) = λ (g : Fact) m.
    subst (Among g) (bare-facts c ss) (alike.to g (subst (Among g) (sym (bare-facts c d.statements)) m)) in
    let from : (g : Fact) → Among g (facts_from c ss) → Among g (facts_from c d.statements) = λ (g : Fact) m.
    subst (Among g) (bare-facts c d.statements) (alike.from g (subst (Among g) (sym (bare-facts c ss)) m)) in (
      (λ k. to-contained f (root ∷ facts_from c d.statements)
          (among-behind f (root ∷ []) (facts_from c ss) (facts_from c d.statements) (from f) (from-contained f (root ∷ facts_from c ss) k))),
      (λ k. to-contained f (root ∷ facts_from c ss)
          (among-behind f (root ∷ []) (facts_from c d.statements) (facts_from c ss) (to f) (from-contained f (root ∷ facts_from c d.statements) k))),
    )

-- ---- what is accepted

abbrev mentions_from : Context → List Statement → List (List (Mention Source))
mentions_from c ss = map (λ p. p.mentions) (placed_from c ss)

abbrev sound : Placed → Bool
sound p = is_sound_in v1_1 p.source.statement

-- the statements are right by themselves alike, and agree alike with others and with one another
record AgreesAlike (c : Context) (xs ys : List Statement) : Type 0 where
  right : list_all sound (placed_from c xs) ≡ list_all sound (placed_from c ys)
  each : (ms : List (Mention Source)) → list_all (agree may_meet ms) (mentions_from c xs) ≡ list_all (agree may_meet ms) (mentions_from c ys)
  all : all_agree may_meet (mentions_from c xs) ≡ all_agree may_meet (mentions_from c ys)

AcceptsAlike : List Statement → List Statement → Type 0
AcceptsAlike xs ys = (c : Context) → AgreesAlike c xs ys

accepts-same : (xs : List Statement) → AcceptsAlike xs xs
unfolding AcceptsAlike
accepts-same xs c = record { right = refl; each = λ ms. refl; all = refl }

accepts-chain : (xs ys zs : List Statement) → AcceptsAlike xs ys → AcceptsAlike ys zs → AcceptsAlike xs zs
unfolding AcceptsAlike
accepts-chain xs ys zs h g c =
    record {
      right = (h c).right ∙ (g c).right;
      each = λ ms. (h c).each ms ∙ (g c).each ms;
      all = (h c).all ∙ (g c).all;
    }

accepts-behind : (s : Statement) (xs ys : List Statement) → AcceptsAlike xs ys → AcceptsAlike (s ∷ xs) (s ∷ ys)
unfolding AcceptsAlike
accepts-behind s xs ys h c =
    let next = h (context_after c s) in
    let own = mentions_of c s in
    record {
      right = ap (λ b. is_sound_in v1_1 (source_of c s).statement && b) next.right;
      each = λ ms. ap (λ b. agree may_meet ms own && b) (next.each ms);
      all = ap (λ b. b && all_agree may_meet (mentions_from (context_after c s) xs)) (next.each own)
          ∙ ap (λ b. list_all (agree may_meet own) (mentions_from (context_after c s) ys) && b) next.all;
    }

each-alike : (ms ns : List (Mention Source)) → cores ms ≡ cores ns → (mss nss : List (List (Mention Source))) → map cores mss ≡ map cores nss
    → list_all (agree may_meet ms) mss ≡ list_all (agree may_meet ns) nss
each-alike ms ns e [] [] h = refl
each-alike ms ns e [] (n ∷ nss) h = absurd (let clash : [] ≡ cores n ∷ map cores nss = h in cc)
each-alike ms ns e (m ∷ mss) [] h = absurd (let clash : cores m ∷ map cores mss ≡ [] = h in cc)
each-alike ms ns e (m ∷ mss) (n ∷ nss) h =
    let both : cores m ∷ map cores mss ≡ cores n ∷ map cores nss = h in
    let first : cores m ≡ cores n = cc in
    let rest : map cores mss ≡ map cores nss = cc in
    ap (λ b. b && list_all (agree may_meet ms) mss) (agree-alike may_meet ns n ms m e first)
    ∙ ap (λ b. agree may_meet ns n && b) (each-alike ms ns e mss nss rest)

same-cores : (c e : Context) (ss : List Statement) → SameContext c e → map cores (mentions_from c ss) ≡ map cores (mentions_from e ss)
same-cores c e ss h = sym (all-cores c c ss (refl, refl)) ∙ all-cores c e ss h

same-sound : (c e : Context) (ss : List Statement) → list_all sound (placed_from c ss) ≡ list_all sound (placed_from e ss)
same-sound c e ss = sym (all-sound c c ss) ∙ all-sound c e ss

shuffled : (p q s t : Bool) → ((p && q) && (s && t)) ≡ ((p && s) && (q && t))
shuffled true true s t = refl
shuffled true false true t = refl
shuffled true false false t = refl
shuffled false q s t = refl

crossed-and : (p q s : Bool) → (p && (q && s)) ≡ (q && (p && s))
crossed-and true true s = refl
crossed-and true false s = refl
crossed-and false true s = refl
crossed-and false false s = refl

module _ (c : Context) (f g : Frame) (v w : Value) (end next : Text) (xs : List Statement) where
  abbrev a : Statement
  a = key_line f v end

  abbrev b : Statement
  b = key_line g w next

  abbrev ab : Context
  ab = context_after (context_after c a) b

  abbrev ba : Context
  ba = context_after (context_after c b) a

  cores-after : (e : Context) (h : Frame) (u : Value) (t : Text) → e.block ≡ c.block
      → cores (mentions_of e (key_line h u t)) ≡ cores (mentions_of c (key_line h u t))
  cores-after e h u t same =
      line-cores (source_of e (key_line h u t)) (e.start + path_start (key_line h u t)) e.block h.path
      ∙ ap (λ p. line_cores p (keys_of_segments h.path)) same
      ∙ sym (line-cores (source_of c (key_line h u t)) (c.start + path_start (key_line h u t)) c.block h.path)

  first-a : cores (mentions_of (context_after c b) a) ≡ cores (mentions_of c a)
  first-a = cores-after (context_after c b) f v end refl

  first-b : cores (mentions_of (context_after c a) b) ≡ cores (mentions_of c b)
  first-b = cores-after (context_after c a) g w next refl

  rest : map cores (mentions_from ab xs) ≡ map cores (mentions_from ba xs)
  rest = same-cores ab ba xs (refl, refl)

  met : agree may_meet (mentions_of c a) (mentions_of (context_after c a) b)
      ≡ agree may_meet (mentions_of c b) (mentions_of (context_after c b) a)
  met =
      let of-a = of-line (source_of c a) (c.start + path_start a) c.block f.path in
      let of-b = of-line (source_of c b) (c.start + path_start b) c.block g.path in
      agree-alike may_meet (mentions_of c a) (mentions_of c b) (mentions_of c a) (mentions_of (context_after c a) b) refl first-b
      ∙ same_test (agree may_meet (mentions_of c a) (mentions_of c b)) (agree may_meet (mentions_of c b) (mentions_of c a))
      (agree-swap may_meet meets-both (mentions_of c a) (mentions_of c b) of-a of-b)
      (agree-swap may_meet meets-both (mentions_of c b) (mentions_of c a) of-b of-a)
      ∙ sym (agree-alike may_meet (mentions_of c b) (mentions_of c a) (mentions_of c b) (mentions_of (context_after c b) a) refl first-a)

  swapped : AgreesAlike c (a ∷ b ∷ xs) (b ∷ a ∷ xs)
  swapped =
      let ma = mentions_of c a in
      let mb = mentions_of c b in
      let ma2 = mentions_of (context_after c b) a in
      let mb2 = mentions_of (context_after c a) b in
      let more = mentions_from ab xs in
      let last = mentions_from ba xs in
      record {
        right = crossed-and (is_sound_in v1_1 a) (is_sound_in v1_1 b) (list_all sound (placed_from ab xs))
            ∙ ap (λ z. is_sound_in v1_1 b && (is_sound_in v1_1 a && z)) (same-sound ab ba xs);
        each = λ ms.
            ap (λ z. agree may_meet ms ma && (z && list_all (agree may_meet ms) more)) (agree-alike may_meet ms mb ms mb2 refl first-b)
            ∙ ap (λ z. agree may_meet ms ma && (agree may_meet ms mb && z)) (each-alike ms ms refl more last rest)
            ∙ crossed-and (agree may_meet ms ma) (agree may_meet ms mb) (list_all (agree may_meet ms) last)
            ∙ ap (λ z. agree may_meet ms mb && (z && list_all (agree may_meet ms) last))
            (sym (agree-alike may_meet ms ma ms ma2 refl first-a));
        all = shuffled (agree may_meet ma mb2) (list_all (agree may_meet ma) more) (list_all (agree may_meet mb2) more) (all_agree may_meet more)
            ∙ ap (λ z. (z && list_all (agree may_meet mb2) more) && (list_all (agree may_meet ma) more && all_agree may_meet more)) met
            ∙ ap (λ z. (agree may_meet mb ma2 && z) && (list_all (agree may_meet ma) more && all_agree may_meet more))
            (each-alike mb2 mb first-b more last rest)
            ∙ ap (λ z. (agree may_meet mb ma2 && list_all (agree may_meet mb) last) && (z && all_agree may_meet more))
            (each-alike ma ma2 (sym first-a) more last rest)
            ∙ ap (λ z. (agree may_meet mb ma2 && list_all (agree may_meet mb) last) && (list_all (agree may_meet ma2) last && z))
            (all_agree-alike may_meet more last rest);
      }

accepts-swap : (a b : Statement) (xs : List Statement) → is_key_line a ≡ true → is_key_line b ≡ true → AcceptsAlike (a ∷ b ∷ xs) (b ∷ a ∷ xs)
unfolding AcceptsAlike
accepts-swap (key_line f v end) (key_line g w next) xs h k c = swapped c f g v w end next xs
accepts-swap (key_line f v end) (header g next) xs h k c = absurd (let clash : false ≡ true = k in cc)
accepts-swap (header f end) b xs h k c = absurd (let clash : false ≡ true = h in cc)

bare-sound : (c : Context) (ss : List Statement) → list_all sound (placed_from c (map bare ss)) ≡ list_all sound (placed_from c ss)
bare-sound c ss =
    sym (all-sound c c (map bare ss)) ∙ ap (λ xs. list_all sound (placed_from c xs)) (bare-bones ss) ∙ all-sound c c ss

bare-cores : (c : Context) (ss : List Statement) → map cores (mentions_from c (map bare ss)) ≡ map cores (mentions_from c ss)
bare-cores c ss =
    sym (all-cores c c (map bare ss) (refl, refl)) ∙ ap (λ xs. map cores (mentions_from c xs)) (bare-bones ss)
    ∙ all-cores c c ss (refl, refl)

pub sorted_accepted_alike : SortedAcceptedAlike
unfolding is_accepted AcceptsAlike
sorted_accepted_alike r tables d =
    let now = list_any (same_names []) tables in
    let c = start_context d in
    let ss = sorted_statements r tables [] now start d.statements in
    let alike = statements-kept AcceptsAlike accepts-same accepts-chain accepts-behind accepts-swap r tables [] now start d.statements tt c in
    ap (λ b. b && all_agree may_meet (mentions_from c ss)) (sym (bare-sound c ss) ∙ sym alike.right ∙ bare-sound c d.statements)
    ∙ ap (λ b. list_all sound (placed_from c d.statements) && b)
    (sym (all_agree-alike may_meet (mentions_from c (map bare ss)) (mentions_from c ss) (bare-cores c ss))
    ∙ sym alike.all
    ∙ all_agree-alike may_meet (mentions_from c (map bare d.statements)) (mentions_from c d.statements) (bare-cores c d.statements))
