use Rattle.std.proofs.Common.{◌≡◌, ◌↔◌, []}
use Rattle.std.specs.Prelude.{IsTrue}
use Rattle.std.proofs.lemmas.Result.{IfOk-weaker}
use Rattle.cs_write.specs.Canon.{canon}
use Rattle.cs_write.specs.Own.{AreOwn}
use Rattle.cs_write.proofs.forms.OwnForm.{own_form, form_owns}
use Rattle.cs_write.proofs.form.is_form.Goals as goal

pub returns : goal.returns
returns c =
    let sections = c.args.sections in
    IfOk-weaker c.are_own.result (λ own. IsTrue own ↔ AreOwn [] sections)
    (λ form. IsTrue form ↔ (canon sections ≡ sections))
    (λ form own. (λ is. own_form sections (own.0 is), λ is. own.1 (form_owns sections is)))
    c.are_own.ensures
