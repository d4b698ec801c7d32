-- `read` makes a slice of the pointer and the length.
use Rattle.toml_edit_text.proofs.StripNames.{◌≡◌, ℕ, ◌*◌, ◌^◌, ◌<◌, List, [], ◌∷◌, length, refl, sym, ap, subst, w64, arith, proved, leaves}
use Rattle.toml_edit_text.proofs.StripNames.{SProp, Lft, ftrue, fhide, flft, fact, fact_i, emp, tables, usize, RefOf, yes, Is, shows}
use Rattle.toml_edit_text.proofs.StripNames.{cell_at, hidden_shr, unhide, hide, uint_vals, uint_Tells, owns, Ptr, block_ptr, ptr_val}
use Rattle.toml_edit_text.proofs.StripNames.{block_of, count_of, at_block, shr_vals, shr_Tells, types_at, plain, nothing, heard, looks}
use Rattle.toml_edit_text.proofs.StripNames.{shuts, peeks, Stays, walk_of, stay_dropped, Goes-dropped, named, Val, vint, vptr, alloc_all}
use Rattle.toml_edit_text.proofs.StripNames.{pass_all, free_all, look_at, get, through, sets, sets_last, is, env, ‵, raw, ◌⊛◌, at_ret, ◌$◌}
use Rattle.toml_edit_text.proofs.StripNames.{◌∵◌, !, qed, by, move, keep, drop, split, join, fsplit, fjoin, fpick, use0, use1, rewrite}
use Rattle.toml_edit_text.proofs.StripNames.{feq_i, flt_i, agg, sub, whole, look_in, enter, returns, first, blocks, exec, stop, fld, load}
use Rattle.toml_edit_text.proofs.StripNames.{of_opd, no_more, and_then}
use Rattle.core.proofs.atomic.Steps.{tail}
use denote.Slice.{slice_val}
use denote.Struct.Lending.{lent_out}
use Rattle.toml_edit_text.proofs.StripFields.{Data, strip_val, strip_told, strip_opens}
use Rattle.toml_edit_text.specs.contracts.strip.Strip as C
use Rattle.toml_edit_text.specs.contracts.strip.Strip.read as f
use Rattle.toml_edit_text.proofs.strip.Strip.read.Statement.{statement}
use Rattle.toml_edit_text.proofs.strip.Strip.read.Code as code

pub read_spec : {M : Type 1} → statement M
read_spec 𝓤 𝓛 𝓜 𝓡 wired =
    let c = f.clauses 𝓛 𝓜.mem 𝓡.returns in let 𝓣 = tables 𝓤 𝓛.H 𝓜 𝓡 𝓡.env in let fn = code.function in let self =
    RefOf (0 ∷ []) tt (plain (λ _. C.the_row)) (λ _. tt) in
    let hs : Stays f.ended.signature.params f.ended.kept = (stay_dropped self yes, (stay_dropped (plain (λ _. usize)) yes, tt)) in
    proved 𝓛 f.ended hs c 𝓜 𝓡 (Goes-dropped 𝓛 1 self yes (λ κs x w. refl), (Goes-dropped 𝓛 1 (plain (λ _. usize)) yes (λ κs x w. refl), tt))
    f.Key.name fn (code.unfolded 𝓤 𝓛.H 𝓜 𝓡 wired)
    (λ κs. (shr_vals, (uint_vals w64, tt))) (λ κs. (shr_Tells (named 0) κs.0 C.the_row, (uint_Tells w64, tt))) (λ κs qs bounds a gh are.
    let κ : Lft = κs.0 in let b : ℕ = a.0.ref_ptr.0 in let o : ℕ = a.0.ref_ptr.1 in let s = a.0.now in let p : Ptr = s.ptr in
    let xs : List ℕ = s.items in let n : ℕ = a.1.0 in
    let fits_n : n < 2 ^ 64 = are.1.0.1 in let at : ℕ × ℕ = (block_of p, count_of p) in
    let y : (walk_of 𝓛 f.ended hs c).Ghost = ((κs, qs, bounds, a, (vptr b o ∷ [], (vint w64 n ∷ [], tt))), gh) in let Post : Val → SProp 𝓤 =
    (walk_of 𝓛 f.ended hs c).post y in
    qed 𝓛 (((‵ (flft κ qs.0) ⊛ ‵ ftrue) ⊛ ‵ (owns (types_at f.ended.signature.params κs) a y.0.4)) ∷ raw (fact 𝓤 (n ≡ length xs)) ∷ []) ∵
    move ! (1 ∷ []) $ heard ! (n ≡ length xs) (λ long. split ! $ split ! $ move ! (2 ∷ []) $ fsplit ! $ fsplit ! $ keep ! (1 ∷ 3 ∷ []) $
    enter ! 𝓣.C 𝓣.Λ fn (vptr b o ∷ vint w64 n ∷ []) Post $
    alloc_all ! (λ l. pass_all ! refl ((tt, tt), ((tt, record { fits = fits_n }), tt)) $ let Ev = env fn.locals l in
    use1 𝓛 (‵ (hidden_shr Data κ (p, tt) b o) ⊛ ‵ (fhide (C.the_lent s (block_ptr b o) κ)))
    (lent_out 𝓛 C.struct C.the_codes C.the_heap C.the_lent κ s b o) $
    split ! $ move ! (1 ∷ []) $ unhide ! $ fsplit ! $ fpick ! (λ placed. drop ! $ hide ! $ move ! (1 ∷ 2 ∷ []) $
    -- [the `&` to the pointer; the token; the bytes]
    looks ! tt Data (strip_opens 𝓛) (p, tt) b o (λ q' vs. move ! (1 ∷ []) $
    peeks ! Data (Is Data) (shows 𝓛 Data) (p, tt) vs (λ is-so. let ev : vs ≡ strip_val p ∷ [] = strip_told p vs is-so in
    rewrite ! 1 (λ (ws : List Val). ‵ (cell_at q' Data.mir ws b o)) ev refl $ first ! $ blocks ! $
    sets ! (is ! (of_opd ! (load ! (through ! refl (fld ! refl (stop !))) (look_in ! 1 (sub ! 0 refl (whole !)))))
    (ap ptr_val (at_block p placed.0))) refl (tt, tt) $
    sets_last ! (agg ! (and_then ! (get ! refl) (and_then ! (get ! refl) (no_more !)))) refl (tt, (tt, (record { fits = fits_n }, tt))) $
    exec ! 𝓣.C 𝓣.Λ Ev (tail fn.body) (at_ret Ev Post) $
    rewrite ! 1 (λ (ws : List Val). ‵ (cell_at q' Data.mir ws b o)) (sym ev) refl $ move ! (1 ∷ 0 ∷ 2 ∷ []) $
    shuts ! tt Data q' (p, tt) vs b o $
    sets ! (of_opd ! (get ! refl)) refl (tt, (tt, (record { fits = fits_n }, tt))) $
    -- [the token; the `&` to the pointer; the bytes]
    move ! (2 ∷ []) $ flt_i ! (length xs * 1) (2 ^ 63) (omega (arith, placed.1)) $
    flt_i ! (length xs) (2 ^ 64) (subst (λ k. k < 2 ^ 64) long fits_n) $ fjoin ! $
    feq_i ! (List Val) (slice_val at n ∷ []) (slice_val at (length xs) ∷ []) (ap (λ k. slice_val at k ∷ []) long) $ fjoin ! $ fjoin ! $
    nothing ! $ move ! (2 ∷ 0 ∷ []) $ join ! $ nothing ! $ nothing ! $ fjoin ! $ nothing ! $ fjoin ! $
    use0 𝓛 (raw (fact 𝓤 (xs ≡ xs))) (fact_i 𝓤 (xs ≡ xs) (emp 𝓤) refl) $
    returns ! (look_at ! 0 refl) $ free_all ! refl $ keep ! (2 ∷ 1 ∷ 3 ∷ 0 ∷ []) $
    by ! (leaves 𝓛 f.ended hs c y (slice_val at n) (record { ref_ptr = at; now = xs }) (tt, (tt, tt)) (tt, (tt, tt)))))))))
