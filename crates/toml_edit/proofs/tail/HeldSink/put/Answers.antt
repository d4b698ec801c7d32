-- What was held is released before the text, of which the tail is held in turn; or the text makes the tail longer.
use Rattle.std.proofs.Common.{◌≡◌, ◌-◌, ◌<◌, ◌≤◌, [], ◌++◌, length, take, refl, sym, ap, subst, ◌∙◌, arith, append_assoc}
use Rattle.toml_edit_io.proofs.Puts.{put_none, put_once, put_two}
use Rattle.toml_edit.specs.Tails.{tail_after, tail_text}
use Rattle.toml_edit.proofs.TailLaws.{EndsIn, cut-at, tail-ends, tail-joined}
use Rattle.toml_edit.proofs.tail.HeldSink.put.Goals as goal
use Rattle.toml_edit.proofs.tail.HeldSink.put.Goals.{then-held-text, else-held-text}

pub range-requires-clause-end_boundary : goal.range-requires-clause-end_boundary
range-requires-clause-end_boundary g c =
    let h = c.args.self.now.tail in
    let t = c.args.text.now in
    let is : c.text_of-held.result.now ≡ tail_text (tail_after h t) = c.text_of-held.ensures
    ∙ ap tail_text (c.tail_after-tail.ensures ∙ ap (tail_after h) c.as_bytes.ensures.value) in
    let le : length (tail_text (tail_after h t)) ≤ length t = subst (λ l. length l ≤ length t) is c.if-held-text.true in
    cut-at t c.text_of-held.result.now c.text_of-held.utf8 (subst (EndsIn t) (sym is) (tail-ends h t le)) c.if-held-text.true

pub returns : goal.returns
returns g c =
    let h = c.args.self.now.tail in
    let t = c.args.text.now in
    let tail : c.tail_after-tail.result ≡ tail_after h t = c.tail_after-tail.ensures ∙ ap (tail_after h) c.as_bytes.ensures.value in
    let end = tail_text (tail_after h t) in
    let is : c.text_of-held.result.now ≡ end = c.text_of-held.ensures ∙ ap tail_text tail in
    elim c.if-held-text.branch [
      | then-held-text w ↦
          let le : length end ≤ length t = subst (λ l. length l ≤ length t) is w.if-held-text.true in
          let n = length t - length c.text_of-held.result.now in
          let all : n - 0 ≡ n = omega arith in
          let front : w.range.result.now ≡ take (length t - length end) t = w.range.ensures.value ∙ ap (λ m. take m t) all
          ∙ ap (λ l. take (length t - length l) t) is in
          put_once _ _ _ (rw w.self-is (record {
            same_reference = refl;
            tail = tail;
            released = w.text_of.result.now ++ w.range.result.now;
            put = put_two _ _ _ _ _ _ w.put.ensures w.put-then-held-text.ensures refl;
            whole =
                ap (λ l. tail_text h ++ l) (tail-ends h t le) ∙ sym (append_assoc (tail_text h) (take (length t - length end) t) end)
                ∙ ap (λ l. (l ++ take (length t - length end) t) ++ end) (sym w.text_of.ensures)
                ∙ ap (λ l. (w.text_of.result.now ++ l) ++ end) (sym front)
                ∙ ap (λ x. (w.text_of.result.now ++ w.range.result.now) ++ tail_text x) (sym tail);
          }))
      | else-held-text w ↦
          let lt : length t < length end = subst (λ l. length t < length l) is w.if-held-text.false in
          put_once _ _ _ (rw w.self-is (record {
            same_reference = refl;
            tail = tail;
            released = [];
            put = put_none _ _ refl;
            whole = tail-joined h t lt ∙ ap tail_text (sym tail);
          }))
    ]
