-- Runs of comments: what the bits of a page give is padded as the marks of its pieces say.
use Rattle.std.proofs.Common.{◌≡◌, refl, sym, ap, subst, ◌∙◌, ℕ, zero, suc, ◌+◌, ◌-◌, ◌≤◌, ◌==◌, arith, Bool, true, false, List, [], ◌∷◌, ◌++◌, Some, None, append-nil, append_assoc}
use Rattle.std.specs.Prelude.{◌&&◌, max, if◌then◌else◌, flat_map}
use Rattle.std.proofs.lemmas.Bool.{eq-eqb, eqb-true}
use Rattle.std.proofs.lemmas.Grind.{flat_map-append}
use Rattle.toml_edit_model.specs.Paths.{Path, same_path}
use Rattle.toml_edit_model.specs.Text.{Text, one, space}
use Rattle.toml_edit_laws.proofs.common.PathLaws.{same_path-refl}
use Rattle.toml_edit_laws.proofs.common.Tests.{and-true}
use Rattle.toml_edit_fmt_laws.specs.Rules.{aligned, spaces}
use Rattle.toml_edit_fmt_laws.specs.Laying.{columns, last_line}
use Rattle.toml_edit_fmt_laws.specs.Aligned as pieces
use Rattle.toml_edit_fmt_laws.specs.Aligned.{Mark, Pad, are_beside, marks, newlines, pad_in, pad_to, pads, widest}
use Rattle.toml_edit_fmt.specs.PageView.{Part, Written, ended, goes_on, grown, marked, most_columns, padded, run_ended}
use Rattle.toml_edit_fmt.proofs.FirstLaws.{last-append, last-broken, newlines-append}
use Rattle.toml_edit_fmt.proofs.PieceLaws.{pieces_text}
use Rattle.toml_edit_fmt.proofs.SpotLaws.{Spot, Item, text, spot, Pads, Fits, IsNew, bits_of, pieces_of}

spaces-add : (n m : ℕ) → spaces (n + m) ≡ spaces n ++ spaces m
spaces-add zero m =
    let same : 0 + m ≡ m = omega arith in
    ap spaces same
spaces-add (suc n) m =
    let next : suc n + m ≡ suc (n + m) = omega arith in
    ap spaces next ∙ ap (λ t. space ∷ t) (spaces-add n m)

-- ---- parts

goes-last : (ps : List Part) (q : Part) (d : ℕ) (t : Text) → goes_on d (record { run = ps ++ one q; text = t }) ≡ ((q.depth == d) && (newlines t == 1))
goes-last [] q d t = refl
goes-last (p ∷ []) q d t = refl
goes-last (p ∷ x ∷ ps) q d t = goes-last (x ∷ ps) q d t

most-last : (ps : List Part) (q : Part) → most_columns (ps ++ one q) ≡ max (most_columns ps) q.columns
most-last [] q = omega arith
most-last (p ∷ ps) q = omega (arith, most-last ps q)

widest-least : (m : Mark) (ms : List Mark) → m.columns ≤ widest m ms
widest-least m [] = omega arith
widest-least m (x ∷ ms) = by_test (pieces.goes_on m x)
  where
    by_test : (b : Bool) → m.columns ≤ (if b then max m.columns (widest x ms) else m.columns)
    by_test true = omega arith
    by_test false = omega arith

-- ---- spaces by their places

abbrev pad_of : List Pad → Spot → ℕ
pad_of ps s = pad_in ps s.statement s.path

-- these are the spaces of all places that are still to come
abbrev Knows : Pads → List Spot → List Pad → Type 0
Knows f seen ps = (s : Spot) → IsNew s seen → f s.statement s.path ≡ pad_of ps s

here-pad : (f : Pads) (seen : List Spot) (s : Spot) (n : ℕ) (ps : List Pad) → IsNew s seen
    → Knows f seen (record { statement = s.statement; path = s.path; spaces = n } ∷ ps) → f s.statement s.path ≡ n
here-pad f seen s n ps new knows =
    knows s new
    ∙ ap (λ b. if b && same_path s.path s.path then n else pad_of ps s) (eq-eqb s.statement s.statement refl)
    ∙ ap (λ b. if b then n else pad_of ps s) (same_path-refl s.path)

next-pads : (f : Pads) (seen : List Spot) (s : Spot) (n : ℕ) (ps : List Pad)
    → Knows f seen (record { statement = s.statement; path = s.path; spaces = n } ∷ ps) → Knows f (s ∷ seen) ps
next-pads f seen s n ps knows q new = knows q new.1 ∙ ap (λ b. if b then n else pad_of ps q) new.0

-- ---- all places

module _ (k : ℕ) (f : Pads) where
  abbrev ended_text : List Item → Written → Text
  ended_text xs w = let v = grown (aligned k) (bits_of xs) w in run_ended (aligned k) v.run v.text

  abbrev flat : ℕ → List Part → Text
  flat most ps = flat_map (padded most k) ps

  abbrev zeros : Pads
  zeros = λ n p. 0

  -- a comment that begins a run
  new-run : (t rest : Text) (cols most d pad : ℕ) → pad ≡ (most + k) - cols → cols ≤ most
      → (flat most (one (record { text = t; columns = cols; depth = d })) ++ []) ++ rest ≡ t ++ (spaces pad ++ rest)
  new-run t rest cols most d pad is below =
      let same : (most - cols) + k ≡ pad = omega (arith, is) in
      ap (λ u. u ++ rest) (append-nil ((t ++ (spaces (most - cols) ++ spaces k)) ++ []) ∙ append-nil (t ++ (spaces (most - cols) ++ spaces k)))
      ∙ append_assoc t (spaces (most - cols) ++ spaces k) rest
      ∙ ap (λ u. t ++ (u ++ rest)) (sym (spaces-add (most - cols) k) ∙ ap spaces same)

  -- one that goes on with a run
  next-run : (ps : List Part) (t rest : Text) (cols most d pad : ℕ) → pad ≡ (most + k) - cols → cols ≤ most
      → (flat most (ps ++ one (record { text = t; columns = cols; depth = d })) ++ []) ++ rest ≡ (flat most ps ++ t) ++ (spaces pad ++ rest)
  next-run ps t rest cols most d pad is below =
      let end : List Part = one (record { text = t; columns = cols; depth = d }) in
      ap (λ u. (u ++ []) ++ rest) (flat_map-append (padded most k) ps end)
      ∙ ap (λ u. u ++ rest) (append_assoc (flat most ps) (flat most end) [])
      ∙ append_assoc (flat most ps) (flat most end ++ []) rest
      ∙ ap (λ u. flat most ps ++ u) (new-run t rest cols most d pad is below)
      ∙ sym (append_assoc (flat most ps) t (spaces pad ++ rest))

  -- after a place, of which the mark is this, in a run of which the longest text has so many columns
  record Running (ps : List Part) (end : Part) (t line : Text) (m : Mark) (s : Spot) (seen : List Spot) (most : ℕ) (xs : List Item) : Type 0 where
    fits : Fits (record { seen = s ∷ seen; count = newlines t }) xs
    path : s.path ≡ m.path
    depth : s.depth ≡ end.depth
    line_is : 1 ≤ newlines t → line ≡ last_line t
    top : m.columns ≤ most_columns (ps ++ one end)
    most_is : most ≡ max (most_columns (ps ++ one end)) (widest m (marks line t (pieces_of zeros xs)))
    knows : Knows f (s ∷ seen) (pads k (Some m) (most + k) (marks line t (pieces_of zeros xs)))

  line-more : (line t u : Text) → (1 ≤ newlines t → line ≡ last_line t) → 1 ≤ newlines (t ++ u) → last_line (line ++ u) ≡ last_line (t ++ u)
  line-more line t u is h = by_count (newlines u) refl
    where
      by_count : (n : ℕ) → newlines u ≡ n → last_line (line ++ u) ≡ last_line (t ++ u)
      by_count zero e =
          ap (λ l. last_line (l ++ u)) (is (omega (arith, h, newlines-append t u))) ∙ last-append t u
      by_count (suc n) e = last-broken line u (omega arith) ∙ sym (last-broken t u (omega arith))

  abbrev Ends : List Item → List Part → Part → Text → ℕ → Type 0
  Ends xs ps end t most =
      ended_text xs (record { run = ps ++ one end; text = t }) ≡ (flat most (ps ++ one end) ++ t) ++ pieces_text (pieces_of f xs)

  -- after a place in a text
  abbrev part_at : Text → ℕ → Part
  part_at t d = record { text = t; columns = columns (last_line t); depth = d }

  abbrev mark_at : Spot → Text → Text → Mark
  mark_at q line since = record { statement = q.statement; path = q.path; columns = columns line; since = since }

  abbrev rest_marks : Text → List Item → List Mark
  rest_marks line xs = marks (last_line (line ++ [])) [] (pieces_of zeros xs)

  -- a run begins
  start-run : (xs : List Item) (t line since : Text) (q : Spot) (seen : List Spot) → IsNew q seen
      → Fits (record { seen = q ∷ seen; count = 0 }) xs → columns (last_line t) ≡ columns line
      → Knows f seen (pad_to (widest (mark_at q line since) (rest_marks line xs) + k) (mark_at q line since)
      ∷ pads k (Some (mark_at q line since)) (widest (mark_at q line since) (rest_marks line xs) + k) (rest_marks line xs))
      → ((most : ℕ) → Running [] (part_at t q.depth) [] (last_line (line ++ [])) (mark_at q line since) q seen most xs → Ends xs [] (part_at t q.depth) [] most)
      → ended_text xs (record { run = one (part_at t q.depth); text = [] }) ≡ t ++ (spaces (f q.statement q.path) ++ pieces_text (pieces_of f xs))
  start-run xs t line since q seen new fits cols knows go =
      let m = mark_at q line since in
      let rest = rest_marks line xs in
      let most = widest m rest in
      let pad : f q.statement q.path ≡ (most + k) - columns line = here-pad f seen q ((most + k) - columns line) (pads k (Some m) (most + k) rest) new knows in
      go most (record {
        fits = fits;
        path = refl;
        depth = refl;
        line_is = λ h. absurd (omega (arith, h));
        top = omega (arith, cols);
        most_is = omega (arith, cols, widest-least m rest);
        knows = next-pads f seen q ((most + k) - columns line) (pads k (Some m) (most + k) rest) knows;
      })
      ∙ new-run t (pieces_text (pieces_of f xs)) (columns (last_line t)) most q.depth (f q.statement q.path)
      (pad ∙ ap (λ n. (most + k) - n) (sym cols)) (omega (arith, cols, widest-least m rest))

  goes-same : (d e : ℕ) (p path : Path) (t : Text) → (newlines t ≡ 1 → (d == e) ≡ are_beside p path)
      → ((d == e) && (newlines t == 1)) ≡ ((newlines t == 1) && are_beside p path)
  goes-same d e p path t h = by_test (newlines t == 1) refl (d == e) h
    where
      by_test : (b : Bool) → (newlines t == 1) ≡ b → (a : Bool) → (newlines t ≡ 1 → a ≡ are_beside p path) → (a && b) ≡ (b && are_beside p path)
      by_test true is a h = and-true a ∙ h (eqb-true (newlines t) 1 is)
      by_test false is true h = refl
      by_test false is false h = refl

  running : (xs : List Item) (ps : List Part) (end : Part) (t line : Text) (m : Mark) (s : Spot) (seen : List Spot) (most : ℕ)
      → Running ps end t line m s seen most xs → Ends xs ps end t most
  running [] ps end t line m s seen most h =
      let same : most_columns (ps ++ one end) ≡ most = omega (arith, h.top, h.most_is) in
      ap (λ n. flat n (ps ++ one end) ++ t) same ∙ sym (append-nil (flat most (ps ++ one end) ++ t))
  running (text u ∷ xs) ps end t line m s seen most h =
      running xs ps end (t ++ u) (last_line (line ++ u)) m s seen most (record {
        fits = subst (λ n. Fits (record { seen = s ∷ seen; count = n }) xs) (sym (newlines-append t u)) h.fits;
        path = h.path;
        depth = h.depth;
        line_is = line-more line t u h.line_is;
        top = h.top;
        most_is = h.most_is;
        knows = h.knows;
      })
      ∙ ap (λ v. v ++ pieces_text (pieces_of f xs)) (sym (append_assoc (flat most (ps ++ one end)) t u))
      ∙ append_assoc (flat most (ps ++ one end) ++ t) u (pieces_text (pieces_of f xs))
  running (spot q ∷ xs) ps end t line m s seen most h =
      ap (λ b. let w : Written = record { run = run; text = t } in ended_text xs (marked q.depth (if b then w else ended (aligned k) w)))
      (goes-last ps end q.depth t ∙ ap (λ n. (n == q.depth) && (newlines t == 1)) (sym h.depth)
      ∙ goes-same s.depth q.depth s.path q.path t h.fits.1.1
      ∙ ap (λ p. (newlines t == 1) && are_beside p q.path) h.path)
      ∙ by_test (pieces.goes_on m mark) refl
      (running xs run own [] next_line mark q (s ∷ seen) most)
      (running xs [] (part_at (flat (most_columns run) run ++ t) q.depth) [] next_line mark q (s ∷ seen))
    where
      run : List Part
      run = ps ++ one end

      next_line : Text
      next_line = last_line (line ++ [])

      mark : Mark
      mark = mark_at q line t

      rest : List Mark
      rest = rest_marks line xs

      own : Part
      own = part_at t q.depth

      same : columns (last_line t) ≡ columns line
      same = ap columns (sym (h.line_is h.fits.1.0))

      by_test : (b : Bool) → pieces.goes_on m mark ≡ b
          → (Running run own [] next_line mark q (s ∷ seen) most xs → Ends xs run own [] most)
          → ((most : ℕ) → Running [] (part_at (flat (most_columns run) run ++ t) q.depth) [] next_line mark q (s ∷ seen) most xs
          → Ends xs [] (part_at (flat (most_columns run) run ++ t) q.depth) [] most)
          → ended_text xs (marked q.depth (if b then record { run = run; text = t } else ended (aligned k) (record { run = run; text = t })))
          ≡ (flat most run ++ t) ++ (spaces (f q.statement q.path) ++ pieces_text (pieces_of f xs))
      by_test true e on off =
          let knows : Knows f (s ∷ seen) (pad_to (most + k) mark ∷ pads k (Some mark) (most + k) rest) =
          subst (λ b. Knows f (s ∷ seen) (let here = if b then most + k else widest mark rest + k in pad_to here mark ∷ pads k (Some mark) here rest)) e h.knows in
          let wide : most ≡ max (most_columns run) (max m.columns (widest mark rest)) =
          h.most_is ∙ ap (λ b. max (most_columns run) (if b then max m.columns (widest mark rest) else m.columns)) e in
          let pad : f q.statement q.path ≡ (most + k) - columns line = here-pad f (s ∷ seen) q ((most + k) - columns line) (pads k (Some mark) (most + k) rest) h.fits.0 knows in
          on (record {
            fits = h.fits.2;
            path = refl;
            depth = refl;
            line_is = λ g. absurd (omega (arith, g));
            top = omega (arith, same, most-last run own);
            most_is = omega (arith, wide, same, h.top, widest-least mark rest, most-last run own);
            knows = next-pads f (s ∷ seen) q ((most + k) - columns line) (pads k (Some mark) (most + k) rest) knows;
          })
          ∙ next-run run t (pieces_text (pieces_of f xs)) (columns (last_line t)) most q.depth (f q.statement q.path)
          (pad ∙ ap (λ n. (most + k) - n) (sym same)) (omega (arith, wide, same, widest-least mark rest))
      by_test false e on off =
          let knows : Knows f (s ∷ seen) (pad_to (widest mark rest + k) mark ∷ pads k (Some mark) (widest mark rest + k) rest) =
          subst (λ b. Knows f (s ∷ seen) (let here = if b then most + k else widest mark rest + k in pad_to here mark ∷ pads k (Some mark) here rest)) e h.knows in
          let wide : most ≡ max (most_columns run) m.columns =
          h.most_is ∙ ap (λ b. max (most_columns run) (if b then max m.columns (widest mark rest) else m.columns)) e in
          let whole : most_columns run ≡ most = omega (arith, wide, h.top) in
          start-run xs (flat (most_columns run) run ++ t) line t q (s ∷ seen) h.fits.0 h.fits.2
          (ap columns (last-broken (flat (most_columns run) run) t h.fits.1.0) ∙ same) knows off
          ∙ ap (λ n. (flat n run ++ t) ++ (spaces (f q.statement q.path) ++ pieces_text (pieces_of f xs))) whole

  -- before any place
  pub unbegun : (xs : List Item) (t line since : Text) (n : ℕ) → line ≡ last_line t → Fits (record { seen = []; count = n }) xs
      → Knows f [] (pads k None 0 (marks line since (pieces_of zeros xs)))
      → ended_text xs (record { run = []; text = t }) ≡ t ++ pieces_text (pieces_of f xs)
  unbegun [] t line since n is fits knows = sym (append-nil t)
  unbegun (text u ∷ xs) t line since n is fits knows =
      unbegun xs (t ++ u) (last_line (line ++ u)) (since ++ u) (n + newlines u) (ap (λ l. last_line (l ++ u)) is ∙ last-append t u) fits knows
      ∙ append_assoc t u (pieces_text (pieces_of f xs))
  unbegun (spot q ∷ xs) t line since n is fits knows =
      start-run xs t line since q [] fits.0 fits.2 (ap columns (sym is)) knows
      (running xs [] (part_at t q.depth) [] (last_line (line ++ [])) (mark_at q line since) q [])
