-- What reads as the parts of a string of several lines is such parts, and they are read again: the same for both forms.
use Rattle.std.proofs.Common.{◌≡◌, ◌⊎◌, ℕ, zero, suc, ◌-◌, ◌<◌, ◌≤◌, min, Bool, true, false, not, ◌==◌, ◌&&◌, List, [], ◌∷◌, ◌++◌, length}
use Rattle.std.proofs.Common.{drop, take, nat_lt, nat_le, Option, Some, None, refl, sym, ap, subst, ◌∙◌, inl, inr, arith, append_assoc}
use Rattle.std.proofs.Common.{append-nil, drop_at, eqb-true}
use Rattle.std.specs.List.{flat_map, AllByRecursion}
use Rattle.std.proofs.lemmas.Bool.{cases_Bool, and_parts, eq-eqb, false≢true, ltb-true, ltb-false, leb-true, leb-false}
use Rattle.std.proofs.lemmas.List.{take-append-drop, length-append}
use Rattle.toml_edit_model.specs.Text.{Text}
use Rattle.toml_edit_model.specs.Trivia.{Newline, lf, crlf, newline_text}
use Rattle.toml_edit_model.specs.Spelling.{Quotes, one_quote, two_quotes, quotes_text, BlockPart, in_line, next_line, quotes, joint}
use Rattle.toml_edit_model.specs.Spelling.{block_text, block_value, IsBlockPart, may_follow, each_may_follow, begins_with_newline}
use Rattle.toml_edit_model.specs.Spelling.{first_newline, three, SpellsBlock}
use Rattle.toml_edit_laws.specs.reading.Runs.{first, Read}
use Rattle.toml_edit_laws.specs.reading.Tokens.{prepend}
use Rattle.toml_edit_laws.specs.reading.BlockReading.{run_of, has_three, newline_len, gap_len, parts_at, inside}
use Rattle.toml_edit_laws.proofs.reading.Steps.{chosen}
use Rattle.toml_edit_laws.proofs.common.OptionSteps.{bind_some}
use Rattle.toml_edit_laws.proofs.reading.StringLaws.{prepend_some}
use Rattle.toml_edit_laws.proofs.reading.BlockSteps.{run_rest, own_front, newline_takes, newline_again, newline_some, no_newline, other_way}
use Rattle.toml_edit_laws.proofs.reading.BlockSteps.{regroup, step_quotes, step_close, step_last, step_line, step_part}

-- ---- the parts of a line, of either form

-- The reading of a form's parts: what it takes is a part that the next may follow, and each part is read again.
pub record PartLaw {P : Type 0} (Is : P → Type 0) (Joins : Text → Type 0) (is_dropped : BlockPart P → Bool) (value text : P → Text) (c : ℕ)
    (part_at : Text → Read Text) : Type 0 where
  pub some : 0 < c
  pub no_feed : (10 == c) ≡ false
  pub no_return : (13 == c) ≡ false
  pub no_slash : (92 == c) ≡ false
  pub no_gap : (u : Text) → gap_len (c ∷ u) ≡ 0
  pub takes : (t v rest : Text) → part_at t ≡ Some (v, rest)
      → (p : BlockPart P) × IsBlockPart Is Joins p × (v ≡ block_value value c p) × (t ≡ block_text text c p ++ rest)
      × ((q : BlockPart P) (u : Text) → IsBlockPart Is Joins q → rest ≡ block_text text c q ++ u → may_follow is_dropped p q ≡ true)
  pub again : (p : P) (u : Text) → Is p → part_at (text p ++ u) ≡ Some (value p, u)
  pub joint_again : (t u : Text) → Joins t → gap_len u ≡ 0 → part_at (92 ∷ (t ++ u)) ≡ Some ([], u)
  pub begins : (p : P) (u : Text) → Is p → (first (text p ++ u) == c) ≡ false
  pub no_line : (p : P) (u : Text) → Is p → newline_len (text p ++ u) ≡ 0
  pub longer : (p : P) → Is p → 0 < length (text p)
  pub stops : (t : Text) → Joins t → (q : BlockPart P) (u : Text) → IsBlockPart Is Joins q → not (is_dropped q) ≡ true
      → gap_len (block_text text c q ++ u) ≡ 0

module _ (P : Type 0) (Is : P → Type 0) (Joins : Text → Type 0) (is_dropped : BlockPart P → Bool) (value text : P → Text) (c : ℕ)
    (part_at : Text → Read Text) (law : PartLaw Is Joins is_dropped value text c part_at) where
  -- what the parts say, and their text
  abbrev said : List (BlockPart P) → Text
  said parts = flat_map (block_value value c) parts

  -- the parts, the closing quotes and the rest
  abbrev closed : List (BlockPart P) → Text → Text
  closed parts rest = flat_map (block_text text c) parts ++ (c ∷ c ∷ c ∷ rest)

  -- parts of the form, each of which may follow the one before
  abbrev AreParts : List (BlockPart P) → Type 0
  AreParts parts = AllByRecursion (IsBlockPart Is Joins) parts × (each_may_follow is_dropped parts ≡ true)

  -- ---- each string is read again

  -- a part that quotes may stand before begins with none
  next_first : (q : Quotes) (p : BlockPart P) (u : Text) → IsBlockPart Is Joins p → may_follow is_dropped (quotes q) p ≡ true
      → (first (block_text text c p ++ u) == c) ≡ false
  next_first q (in_line p) u is follows = law.begins p u is
  next_first q (next_line lf) u is follows = law.no_feed
  next_first q (next_line crlf) u is follows = law.no_return
  next_first q (quotes r) u is follows = absurd cc
  next_first q (joint t) u is follows = law.no_slash

  -- a part is not empty
  part_longer : (p : BlockPart P) → IsBlockPart Is Joins p → 0 < length (block_text text c p)
  part_longer (in_line p) is = law.longer p is
  part_longer (next_line m) is = newline_some m
  part_longer (quotes one_quote) is = omega arith
  part_longer (quotes two_quotes) is = omega arith
  part_longer (joint t) is = omega arith

  -- the parts behind the first
  behind : (p : BlockPart P) (parts : List (BlockPart P)) → each_may_follow is_dropped (p ∷ parts) ≡ true → each_may_follow is_dropped parts
      ≡ true
  behind p [] h = refl
  behind p (q ∷ parts) h = (and_parts (may_follow is_dropped p q) (each_may_follow is_dropped (q ∷ parts)) h).1

  -- behind a joint stands nothing that it would drop
  joint_stops : (t : Text) (parts : List (BlockPart P)) (rest : Text) → AreParts (joint t ∷ parts) → gap_len (closed parts rest) ≡ 0
  joint_stops t [] rest are = law.no_gap (c ∷ c ∷ rest)
  joint_stops t (q ∷ parts) rest ((join, (is, each)), follow) =
      let (here, later) = and_parts (not (is_dropped q)) (each_may_follow is_dropped (q ∷ parts)) follow in
      ap gap_len (append_assoc (block_text text c q) (flat_map (block_text text c) parts) (c ∷ c ∷ c ∷ rest))
      ∙ law.stops t join q (closed parts rest) is here

  -- what follows the string begins with no quote
  parts_again : (parts : List (BlockPart P)) (rest : Text) (n : ℕ) → AreParts parts → (first rest == c) ≡ false
      → length (closed parts rest) < n
      → parts_at part_at c n (closed parts rest) ≡ Some (said parts, rest)
  parts_again parts rest zero are stop room = absurd (omega arith)
  parts_again [] rest (suc n) are stop room = step_close part_at c n rest stop
  parts_again (quotes q ∷ []) rest (suc n) are stop room =
      ap (λ (x : Text). parts_at part_at c (suc n) (x ++ (c ∷ c ∷ c ∷ rest))) (append-nil (quotes_text c q))
      ∙ step_last part_at c q n rest stop
      ∙ ap (λ (x : Text). Some (x, rest)) (sym (append-nil (quotes_text c q)))
  parts_again (quotes q ∷ p ∷ parts) rest (suc n) (each, follow) stop room =
      let u = closed (p ∷ parts) rest in
      let same : closed (quotes q ∷ p ∷ parts) rest ≡ quotes_text c q ++ u =
      append_assoc (quotes_text c q) (flat_map (block_text text c) (p ∷ parts)) (c ∷ c ∷ c ∷ rest) in
      let fits : length u < n = omega (arith, ap length same, length-append (quotes_text c q) u, part_longer (quotes q) each.0) in
      let (here, later) = and_parts (may_follow is_dropped (quotes q) p) (each_may_follow is_dropped (p ∷ parts)) follow in
      let next : (first u == c) ≡ false =
      ap (λ (x : Text). first x == c) (append_assoc (block_text text c p) (flat_map (block_text text c) parts) (c ∷ c ∷ c ∷ rest))
      ∙ next_first q p (closed parts rest) each.1.0 here in
      ap (parts_at part_at c (suc n)) same ∙ step_quotes part_at c q n u next
      ∙ ap (prepend (quotes_text c q)) (parts_again (p ∷ parts) rest n (each.1, later) stop fits)
  parts_again (in_line p ∷ parts) rest (suc n) (each, follow) stop room =
      let same : closed (in_line p ∷ parts) rest ≡ text p ++ closed parts rest =
      append_assoc (text p) (flat_map (block_text text c) parts) (c ∷ c ∷ c ∷ rest) in
      let fits : length (closed parts rest) < n =
      omega (arith, ap length same, length-append (text p) (closed parts rest), law.longer p each.0) in
      let u = closed parts rest in
      ap (parts_at part_at c (suc n)) same
      ∙ step_part part_at c n (text p ++ u) (value p) u (law.begins p u each.0) (law.no_line p u each.0) (law.again p u each.0)
      ∙ ap (prepend (value p)) (parts_again parts rest n (each.1, behind (in_line p) parts follow) stop fits)
  parts_again (next_line m ∷ parts) rest (suc n) (each, follow) stop room =
      let u = closed parts rest in
      let same : closed (next_line m ∷ parts) rest ≡ newline_text m ++ u =
      append_assoc (newline_text m) (flat_map (block_text text c) parts) (c ∷ c ∷ c ∷ rest) in
      let fits : length u < n = omega (arith, ap length same, length-append (newline_text m) u, newline_some m) in
      ap (parts_at part_at c (suc n)) same ∙ step_line part_at c m n u law.no_feed law.no_return
      ∙ ap (prepend (newline_text m)) (parts_again parts rest n (each.1, behind (next_line m) parts follow) stop fits)
  parts_again (joint t ∷ parts) rest (suc n) (each, follow) stop room =
      let u = closed parts rest in
      let same : closed (joint t ∷ parts) rest ≡ 92 ∷ (t ++ u) =
      ap (λ (x : Text). 92 ∷ x) (append_assoc t (flat_map (block_text text c) parts) (c ∷ c ∷ c ∷ rest)) in
      let fits : length u < n = omega (arith, ap length same, length-append t u) in
      ap (parts_at part_at c (suc n)) same
      ∙ step_part part_at c n (92 ∷ (t ++ u)) [] u law.no_slash (no_newline 92 (t ++ u) refl refl)
      (law.joint_again t u each.0 (joint_stops t parts rest (each, follow)))
      ∙ ap (prepend []) (parts_again parts rest n (each.1, behind (joint t) parts follow) stop fits)

  -- ---- what reads so is such a string

  -- the parts up to the closing quotes
  abbrev TakesParts : Text → Text → Text → Type 0
  TakesParts t v rest = (parts : List (BlockPart P)) × AreParts parts × (v ≡ said parts) × (t ≡ closed parts rest)

  -- what may stand behind the part
  abbrev Leaves : BlockPart P → Text → Type 0
  Leaves p rest = (q : BlockPart P) (u : Text) → IsBlockPart Is Joins q → rest ≡ block_text text c q ++ u → may_follow is_dropped p q ≡ true

  -- one part more in front of those that may follow each other
  follow_more : (p : BlockPart P) (parts : List (BlockPart P)) (t rest : Text) → AreParts parts → Leaves p t → t ≡ closed parts rest
      → each_may_follow is_dropped (p ∷ parts) ≡ true
  follow_more p [] t rest are leaves whole = refl
  follow_more p (q ∷ parts) t rest (each, follow) leaves whole =
      rw (
        leaves q (closed parts rest) each.0 (whole ∙ append_assoc (block_text text c q) (flat_map (block_text text c) parts) (c ∷ c ∷ c
            ∷ rest)),
        follow,
      ) refl

  -- one part more at the front
  takes_more : (p : BlockPart P) (t u v w rest : Text) → IsBlockPart Is Joins p → v ≡ block_value value c p → t ≡ block_text text c p ++ u
      → Leaves p u
      → TakesParts u w rest → TakesParts t (v ++ w) rest
  takes_more p t u v w rest is means front leaves (parts, are, says, whole) = (
    p ∷ parts,
    ((is, are.0), follow_more p parts u rest are leaves whole),
    rw (means, says) refl,
    front ∙ ap (λ (x : Text). block_text text c p ++ x) whole
        ∙ sym (append_assoc (block_text text c p) (flat_map (block_text text c) parts) (c ∷ c ∷ c ∷ rest)),
  )

  -- the closing run, with quotes of the string before it
  last_takes : (q : Quotes) (t rest : Text) → t ≡ quotes_text c q ++ (c ∷ c ∷ c ∷ rest) → TakesParts t (quotes_text c q) rest
  last_takes q t rest e = (
    quotes q ∷ [],
    ((tt, tt), refl),
    sym (append-nil (quotes_text c q)),
    e
        ∙ ap (λ (x : Text). x ++ (c ∷ c ∷ c ∷ rest)) (sym (append-nil (quotes_text c q))),
  )

  -- how much of a run closes
  close_cases : (m : ℕ) → 3 ≤ m → m ≤ 5 → (m ≡ 3) ⊎ ((m ≡ 4) ⊎ (m ≡ 5))
  close_cases zero low high = absurd (omega arith)
  close_cases (suc zero) low high = absurd (omega arith)
  close_cases (suc (suc zero)) low high = absurd (omega arith)
  close_cases (suc (suc (suc zero))) low high = inl refl
  close_cases (suc (suc (suc (suc zero)))) low high = inr (inl refl)
  close_cases (suc (suc (suc (suc (suc zero))))) low high = inr (inr refl)
  close_cases (suc (suc (suc (suc (suc (suc m)))))) low high = absurd (omega arith)

  -- what closes the string
  close_takes : (t : Text) → 3 ≤ run_of c t → TakesParts t (take (min (run_of c t) 5 - 3) t) (drop (min (run_of c t) 5) t)
  close_takes t many =
      let m = min (run_of c t) 5 in
      elim (close_cases m (omega arith) (omega arith)) [
        | inl e ↦ rw e ([], (tt, refl), refl, own_front c 3 t (omega arith))
        | inr (inl e) ↦
            let whole : t ≡ c ∷ c ∷ c ∷ c ∷ drop 4 t = own_front c 4 t (omega arith) in
            rw e (subst (λ (v : Text). TakesParts t v (drop 4 t)) (sym (ap (take 1) whole)) (last_takes one_quote t (drop 4 t) whole))
        | inr (inr e) ↦
            let whole : t ≡ c ∷ c ∷ c ∷ c ∷ c ∷ drop 5 t = own_front c 5 t (omega arith) in
            rw e (subst (λ (v : Text). TakesParts t v (drop 5 t)) (sym (ap (take 2) whole)) (last_takes two_quotes t (drop 5 t) whole))
      ]

  -- how many quotes close nothing
  few_cases : (m : ℕ) → 0 < m → m < 3 → (m ≡ 1) ⊎ (m ≡ 2)
  few_cases zero low high = absurd (omega arith)
  few_cases (suc zero) low high = inl refl
  few_cases (suc (suc zero)) low high = inr refl
  few_cases (suc (suc (suc m))) low high = absurd (omega arith)

  -- one or two quotes
  few_takes : (t : Text) → 0 < run_of c t → run_of c t < 3 → (q : Quotes) × (take (run_of c t) t ≡ quotes_text c q)
  few_takes t some few =
      elim (few_cases (run_of c t) some few) [
        | inl e ↦ (one_quote, rw e (ap (take 1) (own_front c 1 t (omega arith))))
        | inr e ↦ (two_quotes, rw e (ap (take 2) (own_front c 2 t (omega arith))))
      ]

  -- behind a run of quotes stand no quotes
  quotes_leave : (q : Quotes) (t : Text) → (first t == c) ≡ false → Leaves (quotes q) t
  quotes_leave q t stop (in_line p) u is e = refl
  quotes_leave q t stop (next_line m) u is e = refl
  quotes_leave q t stop (joint j) u is e = refl
  quotes_leave q t stop (quotes one_quote) u is e = absurd (false≢true (sym stop ∙ ap (λ (x : Text). first x == c) e ∙ eq-eqb c c refl))
  quotes_leave q t stop (quotes two_quotes) u is e = absurd (false≢true (sym stop ∙ ap (λ (x : Text). first x == c) e ∙ eq-eqb c c refl))

  -- what reads as the parts of a string is such parts
  parts_take : (n : ℕ) (t v rest : Text) → parts_at part_at c n t ≡ Some (v, rest) → TakesParts t v rest
  unfolding parts_at
  parts_take zero t v rest e = absurd cc
  parts_take (suc n) t v rest e =
      let run = run_of c t in
      let line = newline_len t in
      elim (chosen (nat_le 3 run) _ _ (Some (v, rest)) e) [
        | inl (many, f) ↦
            let same : ◌≡◌ {A = Text × Text} (take (min run 5 - 3) t, drop (min run 5) t) (v, rest) = cc in
            subst (λ (y : Text × Text). TakesParts t y.0 y.1) same (close_takes t (leb-true 3 run many))
        | inr (few, f) ↦ elim (chosen (nat_lt 0 run) (prepend (take run t) (parts_at part_at c n (drop run t))) _ (Some (v, rest)) f) [
          | inl (some, g) ↦
              let (w, found, says) = prepend_some (take run t) (parts_at part_at c n (drop run t)) v rest g in
              let (q, own) = few_takes t (ltb-true 0 run some) (leb-false 3 run few) in
              let front : t ≡ quotes_text c q ++ drop run t = sym (take-append-drop run t) ∙ ap (λ (x : Text). x ++ drop run t) own in
              let leaves : Leaves (quotes q) (drop run t) = quotes_leave q (drop run t) (run_rest c t law.some) in
              subst (λ (x : Text). TakesParts t x rest) says (takes_more (quotes q) t (drop run t) (take run t) w rest tt own front leaves
              (parts_take n (drop run t) w rest found))
          | inr (none, g) ↦ elim (chosen (nat_lt 0 line) (prepend (take line t) (parts_at part_at c n (drop line t))) _
              (Some (v, rest)) g) [
                | inl (feed, h) ↦
                    let (w, found, says) = prepend_some (take line t) (parts_at part_at c n (drop line t)) v rest h in
                    let (m, own) = newline_takes t feed in
                    let front : t ≡ newline_text m ++ drop line t = sym (take-append-drop line t)
                    ∙ ap (λ (x : Text). x ++ drop line t) own in
                    subst (λ (x : Text). TakesParts t x rest) says (takes_more (next_line m) t (drop line t) (take line t) w rest tt own
                    front
                    (λ q u is e. refl) (parts_take n (drop line t) w rest found))
                | inr (same_line, h) ↦
                    let (x, found, more) = bind_some (part_at t) (λ p. prepend p.0 (parts_at part_at c n p.1)) (v, rest) h in
                    let (w, later, says) = prepend_some x.0 (parts_at part_at c n x.1) v rest more in
                    let (p, is, means, front, leaves) = law.takes t x.0 x.1 (found ∙ refl) in
                    subst (λ (y : Text). TakesParts t y rest) says (takes_more p t x.1 x.0 w rest is means front leaves
                    (parts_take n x.1 w rest later))
              ]
        ]
      ]

  -- ---- with the opening

  -- three quotes stand at the front
  three_front : (t : Text) → has_three c t ≡ true → t ≡ c ∷ c ∷ c ∷ drop 3 t
  three_front [] h =
      let (two, third) = and_parts (0 == c && 0 == c) (0 == c) h in
      absurd (omega (arith, eqb-true 0 c third, law.some))
  three_front (x ∷ []) h =
      let (two, third) = and_parts (x == c && 0 == c) (0 == c) h in
      absurd (omega (arith, eqb-true 0 c third, law.some))
  three_front (x ∷ y ∷ []) h =
      let (two, third) = and_parts (x == c && y == c) (0 == c) h in
      absurd (omega (arith, eqb-true 0 c third, law.some))
  three_front (x ∷ y ∷ z ∷ t) h =
      let (two, third) = and_parts (x == c && y == c) (z == c) h in
      let (one, second) = and_parts (x == c) (y == c) two in
      ap (λ (w : ℕ). w ∷ y ∷ z ∷ t) (eqb-true x c one) ∙ ap (λ (w : ℕ). c ∷ w ∷ z ∷ t) (eqb-true y c second)
      ∙ ap (λ (w : ℕ). c ∷ c ∷ w ∷ t) (eqb-true z c third)

  -- what begins with no newline has none as its first part
  begins_apart : (parts : List (BlockPart P)) (rest : Text) → newline_len (closed parts rest) ≡ 0 → begins_with_newline parts ≡ false
  begins_apart [] rest none = refl
  begins_apart (in_line p ∷ parts) rest none = refl
  begins_apart (quotes q ∷ parts) rest none = refl
  begins_apart (joint t ∷ parts) rest none = refl
  begins_apart (next_line lf ∷ parts) rest none = absurd (unfold newline_len in omega (arith, none))
  begins_apart (next_line crlf ∷ parts) rest none = absurd (unfold newline_len in omega (arith, none))

  -- the parts begin with no newline, and so does their text
  begins_none : (parts : List (BlockPart P)) (rest : Text) → AllByRecursion (IsBlockPart Is Joins) parts → begins_with_newline parts ≡ false
      → newline_len (closed parts rest) ≡ 0
  begins_none [] rest each none = no_newline c (c ∷ c ∷ rest) (other_way 10 c law.no_feed) (other_way 13 c law.no_return)
  begins_none (in_line p ∷ parts) rest each none =
      ap newline_len (append_assoc (text p) (flat_map (block_text text c) parts) (c ∷ c ∷ c ∷ rest))
      ∙ law.no_line p (closed parts rest) each.0
  begins_none (quotes one_quote ∷ parts) rest each none = no_newline c _ (other_way 10 c law.no_feed) (other_way 13 c law.no_return)
  begins_none (quotes two_quotes ∷ parts) rest each none = no_newline c _ (other_way 10 c law.no_feed) (other_way 13 c law.no_return)
  begins_none (joint t ∷ parts) rest each none = no_newline 92 _ refl refl
  begins_none (next_line m ∷ parts) rest each none = absurd cc

  -- the text spells the value in this form
  abbrev Spelled : Text → Text → Type 0
  Spelled v t = SpellsBlock Is Joins is_dropped value text c v t

  -- what reads as a string of the form is one
  pub form_takes : (n : ℕ) (t v rest : Text) → has_three c t ≡ true → parts_at part_at c n (inside t) ≡ Some (v, rest)
      → (spelled : Text) × Spelled v spelled × (t ≡ spelled ++ rest)
  form_takes n t v rest begun e =
      let u = drop 3 t in
      let (parts, (each, follow), says, whole) = parts_take n (inside t) v rest e in
      let body = flat_map (block_text text c) parts in
      elim (cases_Bool (nat_lt 0 (newline_len u))) [
        | inl feed ↦
            let (m, own) = newline_takes u feed in
            let after : u ≡ newline_text m ++ closed parts rest =
            sym (take-append-drop (newline_len u) u) ∙ ap (λ (x : Text). x ++ inside t) own
            ∙ ap (λ (x : Text). newline_text m ++ x) whole in (
              three c ++ (newline_text m ++ (body ++ three c)),
              (Some m, parts, each, follow, (λ h. absurd cc), says, refl),
              three_front t begun ∙ ap (λ (x : Text). c ∷ c ∷ c ∷ x) (after ∙ sym (regroup (newline_text m) body (three c) rest)),
            )
        | inr none ↦
            let empty : newline_len u ≡ 0 = omega (arith, ltb-false 0 (newline_len u) none) in
            let same : inside t ≡ u = ap (λ (k : ℕ). drop k u) empty in
            let apart : begins_with_newline parts ≡ false = begins_apart parts rest (ap newline_len (sym whole ∙ same) ∙ empty) in (
              three c ++ (body ++ three c),
              (None, parts, each, follow, (λ h. apart), says, refl),
              three_front t begun ∙ ap (λ (x : Text). c ∷ c ∷ c ∷ x) (sym same ∙ whole ∙ sym (append_assoc body (three c) rest)),
            )
      ]

  -- a string of the form opens with three quotes
  pub form_opens : (v spelled rest : Text) → Spelled v spelled → has_three c (spelled ++ rest) ≡ true
  form_opens v spelled rest (f, parts, each, follow, apart, says, whole) = rw (whole, eq-eqb c c refl) refl

  -- the text that is read behind the opening
  inside_is : (f : Option Newline) (parts : List (BlockPart P)) (rest : Text) → AllByRecursion (IsBlockPart Is Joins) parts
      → ((f ≡ None) → begins_with_newline parts ≡ false)
      → inside (three c ++ (first_newline f ++ closed parts rest)) ≡ closed parts rest
  inside_is (Some m) parts rest each apart =
      ap (λ (k : ℕ). drop k (newline_text m ++ closed parts rest)) (newline_again m (closed parts rest))
      ∙ drop_at (newline_text m) (closed parts rest) (length (newline_text m)) refl
  inside_is None parts rest each apart = ap (λ (k : ℕ). drop k (closed parts rest)) (begins_none parts rest each (apart refl))

  -- a string of the form is read again
  pub form_again : (v spelled rest : Text) → Spelled v spelled → (first rest == c) ≡ false
      → parts_at part_at c (length (spelled ++ rest)) (inside (spelled ++ rest)) ≡ Some (v, rest)
  form_again v spelled rest (f, parts, each, follow, apart, says, whole) stop =
      let body = flat_map (block_text text c) parts in
      let t = three c ++ (first_newline f ++ closed parts rest) in
      let same : spelled ++ rest ≡ t = ap (λ (x : Text). x ++ rest) whole
      ∙ ap (λ (x : Text). c ∷ c ∷ c ∷ x) (regroup (first_newline f) body (three c) rest) in
      let room : length (closed parts rest) < length t = omega (arith, length-append (first_newline f) (closed parts rest)) in
      ap (λ (x : Text). parts_at part_at c (length x) (inside x)) same
      ∙ ap (λ (x : Text). parts_at part_at c (length t) x) (inside_is f parts rest each apart)
      ∙ parts_again parts rest (length t) (each, follow) stop room ∙ ap (λ (x : Text). Some (x, rest)) (sym says)
