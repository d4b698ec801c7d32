-- A full row gives up its bytes.
use Rattle.toml_edit_text.proofs.StripNames.{◌≡◌, ℕ, ◌++◌, List, [], ◌∷◌, length, refl, sym, ◌∙◌, arith, proved_at, leaves, ftrue, fact}
use Rattle.toml_edit_text.proofs.StripNames.{fact_i, emp, tables, yes, Ptr, block_ptr, types_at, owns, plain, nothing, heard, Stays}
use Rattle.toml_edit_text.proofs.StripNames.{walk_of, stay_dropped, Goes-dropped, Val, WT, WpFn, calls_at_last, framed, alloc_all, pass_all}
use Rattle.toml_edit_text.proofs.StripNames.{free_all, look_at, get, get_in, sets, is, env, lands_last, ‵, raw, ◌⊛◌, given, later, at_ret}
use Rattle.toml_edit_text.proofs.StripNames.{◌$◌, ◌∵◌, !, qed, by, move, keep, drop, split, fsplit, fjoin, learn, await, use0, use1, agg}
use Rattle.toml_edit_text.proofs.StripNames.{sub, whole, enter, returns, first, blocks, exec, stop, fld, of_opd, no_more, and_then}
use types.Kit.{regoal, prop}
use Rattle.core.proofs.atomic.Steps.{tail}
use Rattle.core.specs.Mem.Slots.{slots_items, slots_filled, slots_ptr, slots_len, slots_counts, IsFull}
use Rattle.core.specs.Mem.Slots.Ownership.{slots}
use Rattle.core.proofs.slots.Opens.{row_val, row_had, row_made}
use Rattle.core.proofs.slots.Slots.into_raw_parts.Met as callee
use Rattle.toml_edit_text.specs.Strip.{strip_owns}
use Rattle.toml_edit_text.proofs.StripFields.{Data, strip_val, strip_made}
use Rattle.toml_edit_text.proofs.StripRows.{Byte, byte_laws, Row, parts_Typed, Into, at_into, into_goes, into_gives, to_bytes}
use Rattle.toml_edit_text.specs.contracts.strip.Strip as C
use Rattle.toml_edit_text.specs.contracts.strip.Strip.of as f
use Rattle.toml_edit_text.proofs.strip.Strip.of.Statement.{statement}
use Rattle.toml_edit_text.proofs.strip.Strip.of.Code as code

pub of_spec : {M : Type 1} → statement M
of_spec 𝓤 𝓛 𝓜 𝓡 wired =
    let c = f.clauses 𝓛 𝓜.mem 𝓡.returns in let 𝓣 = tables 𝓤 𝓛.H 𝓜 𝓡 𝓡.env in let fn = code.function in let G = Into 𝓛 𝓜.mem 𝓡.returns in
    let met = callee.met 𝓤 𝓛 𝓜 𝓡 (code.calls-core::slots::Slots::into_raw_parts 𝓡.env wired) denote.Builtin.u8 byte_laws in
    let hs : Stays f.ended.signature.params f.ended.kept = (stay_dropped (plain (λ _. Row)) yes, tt) in
    proved_at 𝓛 f.ended hs c 𝓜 𝓡 (
      Goes-dropped 𝓛 0 (plain (λ _. Row)) yes (λ κs x w. refl),
      tt,
    ) f.Key.name fn (code.unfolded 𝓤 𝓛.H 𝓜 𝓡 wired) (λ z are.
    let r : Row.Denot = z.0.3.0 in let vss = z.0.4 in let xs : List ℕ = slots_items r in let fs = slots_filled r in let k : ℕ =
    slots_len r in let Post = (walk_of 𝓛 f.ended hs c).post z in
    qed 𝓛 ((‵ ftrue ⊛ ‵ (owns (types_at f.ended.signature.params z.0.0) z.0.3 vss)) ∷ raw (fact 𝓤 (IsFull r)) ∷ []) ∵
    move ! (1 ∷ []) $ heard ! (IsFull r) (λ full. split ! $ drop ! $ fsplit ! $
    row_had Byte ! r vss.0 (λ b o at e fk fit. row_made Byte ! r b o at fk fit $ keep ! (0 ∷ []) $
    let p : Ptr = block_ptr b o in let words : WT (row_val b o k) = (tt, (record { fits = fk }, tt)) in let new : C.the_row.Denot =
    record { ptr = p; items = xs } in let Told : Type 0 = (p ≡ slots_ptr r) × (xs ≡ xs) in
    let lx : k ≡ length xs = (slots_counts r).0 in let lf : k ≡ length fs = (slots_counts r).1 in
    regoal ! (λ (us : List Val). prop (WpFn 𝓤 𝓛.H 𝓣.C 𝓣.Λ fn (us ++ []) Post)) e refl $
    enter ! 𝓣.C 𝓣.Λ fn (row_val b o k ∷ []) Post $ alloc_all ! (λ l. pass_all ! refl ((tt, words), tt) $ let Ev = env fn.locals l in
    first ! $ blocks ! $ sets ! (of_opd ! (get ! refl)) refl (tt, words) $
    use1 𝓛 (raw (G.pre (at_into 𝓛 𝓜.mem 𝓡.returns r b o))) (into_goes 𝓛 𝓜.mem 𝓡.returns r b o) $
    calls_at_last ! (framed 𝓤 𝓛.H 𝓜 𝓣) G met (at_into 𝓛 𝓜.mem 𝓡.returns r b o) (and_then ! (get ! refl) (no_more !)) (λ v.
    use1 𝓛 (later (given (v ≡ row_val b o k) (‵ (slots denote.Builtin.u8 p xs fs)))) (into_gives 𝓛 𝓜.mem 𝓡.returns r b o v at) $
    await ! tt $ learn ! (λ ev.
    lands_last ! refl (parts_Typed v b o k ev fk) $ exec ! 𝓣.C 𝓣.Λ Ev (tail fn.body) (at_ret Ev Post) $
    sets ! (is ! (of_opd ! (get ! refl)) ev) refl (tt, words) $
    sets ! (agg ! (and_then ! (get_in ! (fld ! refl (stop !)) (sub ! 0 refl (whole !))) (no_more !))) refl (tt, (tt, tt)) $
    use1 𝓛 (‵ (strip_owns p xs)) (to_bytes 𝓛 b o xs fs (sym lf ∙ lx) (λ j h. full j (omega arith) (omega arith)) (omega (arith, fit, lx))) $
    use0 𝓛 (‵ (Data.own_val (p, tt) (strip_val p ∷ []))) (strip_made 𝓛 p) $ fjoin ! $
    nothing ! $ nothing ! $ nothing ! $ fjoin ! $ use0 𝓛 (raw (fact 𝓤 Told)) (fact_i 𝓤 Told (emp 𝓤) (sym at, refl)) $
    returns ! (look_at ! 0 refl) $ free_all ! refl $ keep ! (2 ∷ 1 ∷ 3 ∷ 0 ∷ []) $
    by ! (leaves 𝓛 f.ended hs c z (strip_val p) new (tt, tt) (tt, tt))))))))
