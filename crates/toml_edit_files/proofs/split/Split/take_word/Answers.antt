-- The next word is an option, or another word.
use Rattle.std.proofs.Common.{◌≡◌, ◌==◌, ◌∙◌, ◌++◌, ◌∷◌, [], ap, sym, Bor, None, Some}
use Rattle.std.proofs.lemmas.Result.{on_ok_weaker}
use Rattle.toml_edit_model.specs.Text.{Text}
use Rattle.toml_edit_files.specs.Split.{following, is_plain, split_of, takes}
use Rattle.toml_edit_files.specs.Stops.{reason_of}
use Rattle.toml_edit_files.proofs.SplitLaws.{by-memory, by-mistake, empty-so, ends, flag, no-option, plain, wants, word}
use Rattle.toml_edit_files.proofs.split.Split.take_word.Goals as goal

pub returns-then-is_plain-clause-took : goal.returns-then-is_plain-clause-took
returns-then-is_plain-clause-took c =
    let s = split_of c.args.self.now in let w = c.args.word.now in
    on_ok_weaker c.add_operand.result
    (λ h. plain c.args.topic s w (sym c.is_plain.ensures ∙ c.if-is_plain.true)
    ∙ ap (λ n. Some (record s { operands = s.operands ++ (w ∷ []); left = n })) (sym c.saturating_sub-self.ensures) ∙ ap (λ t. Some t) (sym h))
    c.add_operand.ensures.added

pub returns-then-is_plain-clause-stops : goal.returns-then-is_plain-clause-stops
returns-then-is_plain-clause-stops c =
    let s = split_of c.args.self.now in
    by-memory (takes c.args.topic s c.args.word.now None (is_plain s) ≡ None) c.add_operand.result c.add_operand.ensures.memory

pub returns-then-eq-clause-took : goal.returns-then-eq-clause-took
returns-then-eq-clause-took c =
    ends c.args.topic (split_of c.args.self.now) c.args.word.now (sym c.is_plain.ensures ∙ c.if-is_plain.false) (sym c.eq.ensures ∙ c.if-eq.true)

pub returns-then-is_flag-clause-took : goal.returns-then-is_flag-clause-took
returns-then-is_flag-clause-took c =
    let s = split_of c.args.self.now in let w = c.args.word.now in
    on_ok_weaker c.add_option.result
    (λ h. flag c.args.topic s w (sym c.is_plain.ensures ∙ c.if-is_plain.false) (sym c.eq.ensures ∙ c.if-eq.false)
    (sym c.is_flag.ensures ∙ c.if-is_flag.true)
    ∙ ap (λ t. Some t) (sym h))
    c.add_option.ensures.added

pub returns-then-is_flag-clause-stops : goal.returns-then-is_flag-clause-stops
returns-then-is_flag-clause-stops c =
    let s = split_of c.args.self.now in
    by-memory (takes c.args.topic s c.args.word.now None (is_plain s) ≡ None) c.add_option.result c.add_option.ensures.memory

pub returns-then-takes_operand-clause-took : goal.returns-then-takes_operand-clause-took
returns-then-takes_operand-clause-took c =
    wants c.args.topic (split_of c.args.self.now) c.args.word.now (sym c.is_plain.ensures ∙ c.if-is_plain.false) (sym c.eq.ensures ∙ c.if-eq.false)
    (sym c.is_flag.ensures ∙ c.if-is_flag.false) (sym c.takes_operand.ensures ∙ c.if-takes_operand.true)

pub returns-then-refuses-clause-stops : goal.returns-then-refuses-clause-stops
returns-then-refuses-clause-stops c =
    let s = split_of c.args.self.now in let w = c.args.word.now in
    by-mistake (takes c.args.topic s w None (is_plain s) ≡ None) (reason_of c.no_option.result)
    (no-option c.args.topic s w (sym c.is_plain.ensures ∙ c.if-is_plain.false) (sym c.eq.ensures ∙ c.if-eq.false)
    (sym c.is_flag.ensures ∙ c.if-is_flag.false) (sym c.takes_operand.ensures ∙ c.if-takes_operand.false)
    (sym c.refuses.ensures ∙ c.if-refuses.true))
    c.no_option.ensures

pub returns-clause-took : goal.returns-clause-took
returns-clause-took c =
    let s = split_of c.args.self.now in let w = c.args.word.now in let ops = c.args.self.now.operands in
    let empty = empty-so (λ (o : Bor Text). o.now) ops.items c.is_empty.result (c.is_empty.ensures ∙ ap (λ n. n == 0) ops.ok.0) in
    on_ok_weaker c.add_operand-2.result
    (λ h. word c.args.topic s w (sym c.is_plain.ensures ∙ c.if-is_plain.false) (sym c.eq.ensures ∙ c.if-eq.false)
    (sym c.is_flag.ensures ∙ c.if-is_flag.false) (sym c.takes_operand.ensures ∙ c.if-takes_operand.false)
    (sym c.refuses.ensures ∙ c.if-refuses.false)
    ∙ ap (λ n. Some (record s { operands = s.operands ++ (w ∷ []); left = n }))
    (sym (c.following-self.ensures ∙ ap (λ b. following c.args.topic b w) empty))
    ∙ ap (λ t. Some t) (sym h))
    c.add_operand-2.ensures.added

pub returns-clause-stops : goal.returns-clause-stops
returns-clause-stops c =
    let s = split_of c.args.self.now in
    by-memory (takes c.args.topic s c.args.word.now None (is_plain s) ≡ None) c.add_operand-2.result c.add_operand-2.ensures.memory
