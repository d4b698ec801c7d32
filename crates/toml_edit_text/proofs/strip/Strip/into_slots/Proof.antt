-- The bytes are the places of a full row.
use Rattle.toml_edit_text.proofs.StripNames.{◌≡◌, ℕ, ◌^◌, ◌<◌, List, [], ◌∷◌, length, refl, sym, ap, subst, ◌∙◌, w64, proved, leaves, ftrue}
use Rattle.toml_edit_text.proofs.StripNames.{fact, fact_i, emp, tables, usize, u8, yes, uint_vals, uint_Tells, Ptr, block_ptr, ptr_val}
use Rattle.toml_edit_text.proofs.StripNames.{block_of, count_of, at_block, types_at, owns, plain, nothing, heard, Stays, walk_of}
use Rattle.toml_edit_text.proofs.StripNames.{stay_dropped, Goes-dropped, WT, vint, calls_at_last, framed, alloc_all, pass_all, free_all}
use Rattle.toml_edit_text.proofs.StripNames.{look_at, get, get_in, sets, is, env, lands_last, ‵, raw, ◌⊛◌, some, given, later, at_ret, ◌$◌}
use Rattle.toml_edit_text.proofs.StripNames.{◌∵◌, !, qed, by, move, keep, drop, split, fsplit, fjoin, fpick, pick, learn, await, use0, use1}
use Rattle.toml_edit_text.proofs.StripNames.{sub, whole, enter, returns, first, blocks, exec, stop, fld, of_opd, no_more, and_then}
use types.Kit.{regoal, prop}
use prog.Wp.{WpFn}
use lib.ListN.{replicate}
use mathlib.Core.Bool.{true}
use Rattle.core.proofs.atomic.Steps.{tail}
use Rattle.core.specs.Mem.Slots.{slots_ptr, slots_len}
use Rattle.core.specs.Mem.Slots.Ownership.{slots}
use Rattle.core.proofs.slots.Opens.{row_val}
use Rattle.core.proofs.slots.Slots.from_raw_parts.Met as callee
use Rattle.toml_edit_text.proofs.StripFields.{strip_val, strip_told, strip_good}
use Rattle.toml_edit_text.proofs.StripRows.{byte_laws, Row, row_Typed, From, at_from, from_goes, Made, from_gives, of_bytes}
use Rattle.toml_edit_text.specs.contracts.strip.Strip as C
use Rattle.toml_edit_text.specs.contracts.strip.Strip.into_slots as f
use Rattle.toml_edit_text.proofs.strip.Strip.into_slots.Statement.{statement}
use Rattle.toml_edit_text.proofs.strip.Strip.into_slots.Code as code

pub into_slots_spec : {M : Type 1} → statement M
into_slots_spec 𝓤 𝓛 𝓜 𝓡 wired =
    let c = f.clauses 𝓛 𝓜.mem 𝓡.returns in let 𝓣 = tables 𝓤 𝓛.H 𝓜 𝓡 𝓡.env in let fn = code.function in let G = From 𝓛 𝓜.mem 𝓡.returns in
    let met = callee.met 𝓤 𝓛 𝓜 𝓡 (code.calls-core::slots::Slots::from_raw_parts 𝓡.env wired) u8 byte_laws in
    let hs : Stays f.ended.signature.params f.ended.kept =
    (stay_dropped (plain (λ _. C.the_row)) yes, (stay_dropped (plain (λ _. usize)) yes, tt)) in
    proved 𝓛 f.ended hs c 𝓜 𝓡 (
      Goes-dropped 𝓛 0 (plain (λ _. C.the_row)) yes (λ κs x w. refl),
      (Goes-dropped 𝓛 0 (plain (λ _. usize)) yes (λ κs x w. refl), tt),
    ) f.Key.name fn (code.unfolded 𝓤 𝓛.H 𝓜 𝓡 wired)
    (λ κs. ((λ x. strip_val x.ptr ∷ []), (uint_vals w64, tt))) (λ κs. ((λ x vs so. strip_told x.ptr vs so.0), (uint_Tells w64, tt)))
    (λ κs qs bounds a gh are.
    let p : Ptr = a.0.ptr in let xs : List ℕ = a.0.items in let k : ℕ = a.1.0 in let fk : k < 2 ^ 64 = are.1.0.1 in let b : ℕ =
    block_of p in let o : ℕ = count_of p in
    let y : (walk_of 𝓛 f.ended hs c).Ghost = ((κs, qs, bounds, a, (strip_val p ∷ [], (vint w64 k ∷ [], tt))), gh) in let Post =
    (walk_of 𝓛 f.ended hs c).post y in
    let fs = replicate (length xs) true in let asked = at_from 𝓛 𝓜.mem 𝓡.returns b o xs in
    qed 𝓛 ((‵ ftrue ⊛ ‵ (owns (types_at f.ended.signature.params κs) a y.0.4)) ∷ raw (fact 𝓤 (k ≡ length xs)) ∷ []) ∵
    move ! (1 ∷ []) $ heard ! (k ≡ length xs) (λ long. split ! $ drop ! $ fsplit ! $ fsplit ! $ drop ! $ fsplit ! $
    fpick ! (λ placed. drop ! $ keep ! (0 ∷ []) $ let at : p ≡ block_ptr b o = at_block p placed.0 in
    let fits : length xs < 2 ^ 64 = subst (λ n. n < 2 ^ 64) long fk in
    regoal ! (λ (n : ℕ). prop (WpFn 𝓤 𝓛.H 𝓣.C 𝓣.Λ fn (strip_val p ∷ vint w64 n ∷ []) Post)) long refl $
    enter ! 𝓣.C 𝓣.Λ fn (strip_val p ∷ vint w64 (length xs) ∷ []) Post $
    alloc_all ! (λ l. pass_all ! refl (strip_good p placed.0, ((tt, record { fits = fits }), tt)) $ let Ev = env fn.locals l in
    sets ! (is ! (of_opd ! (get_in ! (fld ! refl (stop !)) (sub ! 0 refl (whole !)))) (ap ptr_val at)) refl (tt, tt) $ first ! $ blocks ! $
    use1 𝓛 (‵ (slots u8 (block_ptr b o) xs fs)) (of_bytes 𝓛 b o xs) $
    use1 𝓛 (raw (G.pre asked)) (from_goes 𝓛 𝓜.mem 𝓡.returns b o xs placed.1) $
    calls_at_last ! (framed 𝓤 𝓛.H 𝓜 𝓣) G met asked (and_then ! (get ! refl) (and_then ! (get ! refl) (no_more !))) (λ v.
    use1 𝓛 (later (some (λ (r : Row.Denot). given (Made 𝓛 𝓜.mem 𝓡.returns b o xs v r) (‵ (Row.own_val r (row_val b o (length xs) ∷ []))))))
    (from_gives 𝓛 𝓜.mem 𝓡.returns b o xs v) $ await ! tt $ pick ! (λ r. learn ! (λ made.
    let Told : Type 0 = (slots_ptr r ≡ p) × (slots_len r ≡ k) in let words : WT (row_val b o (length xs)) =
    (tt, (record { fits = fits }, tt)) in
    lands_last ! refl (row_Typed v b o (length xs) made.0 fits) $ exec ! 𝓣.C 𝓣.Λ Ev (tail (tail fn.body)) (at_ret Ev Post) $
    sets ! (is ! (of_opd ! (get ! refl)) made.0) refl (tt, words) $
    nothing ! $ nothing ! $ nothing ! $ fjoin ! $ nothing ! $ fjoin ! $
    use0 𝓛 (raw (fact 𝓤 Told)) (fact_i 𝓤 Told (emp 𝓤) (made.1 ∙ sym at, made.2 ∙ sym long)) $
    returns ! (look_at ! 0 refl) $ free_all ! refl $ keep ! (2 ∷ 1 ∷ 3 ∷ 0 ∷ []) $
    by ! (leaves 𝓛 f.ended hs c y (row_val b o (length xs)) r (tt, (tt, tt)) (tt, (tt, tt))))))))))
