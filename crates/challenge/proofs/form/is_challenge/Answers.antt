-- `challenge::form::is_challenge` meets its contract: each test that fails is one of the form's, and past the others the last decides.
-- Assumes nothing.
use borrow.Author.Tests.{lt-leb}
use mathlib.Core.Path.{sym, ◌∙◌}
use Rattle.challenge.specs.Form.{form_tests}
use Rattle.challenge.proofs.Values.{form_fails, form_ends}
use Rattle.challenge.proofs.form.is_challenge.Goals as goal

pub returns-then-line-gt-LONGEST : goal.returns-then-line-gt-LONGEST
unfolding form_tests
returns-then-line-gt-LONGEST c = sym (form_fails _ 0 (lt-leb _ _ c.if-line-gt-LONGEST.true))

pub returns-then-not-has_value : goal.returns-then-not-has_value
unfolding form_tests
returns-then-not-has_value c = sym (form_fails _ 1 (sym c.has_value.ensures ∙ c.if-not-has_value.true))

pub returns-then-not-gives_word : goal.returns-then-not-gives_word
unfolding form_tests
returns-then-not-gives_word c = sym (form_fails _ 2 (sym c.gives_word.ensures ∙ c.if-not-gives_word.true))

pub returns-then-not-has_value-2 : goal.returns-then-not-has_value-2
unfolding form_tests
returns-then-not-has_value-2 c = sym (form_fails _ 3 (sym c.has_value-2.ensures ∙ c.if-not-has_value-2.true))

pub returns-then-not-has_value-3 : goal.returns-then-not-has_value-3
unfolding form_tests
returns-then-not-has_value-3 c = sym (form_fails _ 4 (sym c.has_value-3.ensures ∙ c.if-not-has_value-3.true))

pub returns : goal.returns
returns c =
    c.ends_right.ensures
    ∙ form_ends _ c.if-line-gt-LONGEST.false
    (sym c.has_value.ensures ∙ c.if-not-has_value.false)
    (sym c.gives_word.ensures ∙ c.if-not-gives_word.false)
    (sym c.has_value-2.ensures ∙ c.if-not-has_value-2.false)
    (sym c.has_value-3.ensures ∙ c.if-not-has_value-3.false)
