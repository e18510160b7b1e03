use Rattle.std.proofs.Common.{◌≡◌, ◌+◌, ◌∷◌, ◌++◌, [], List, ap, subst, sym, ◌∙◌, length, drop, take, arith}
use Rattle.std.proofs.lemmas.List.{drop-drop}
use Rattle.cs_model.specs.declared.at.At.{At}
use Rattle.cs_model.specs.declared.shape.Shape.{Shape}
use Rattle.cs_model.specs.TextFront.{StartsWith}
use Rattle.cs_model.proofs.texts.FrontLaws.{begun_within, front_grows, head_long, section_of}
use Rattle.cs_model.proofs.texts.GrowthLaws.{TextGrows}
use Rattle.cs_model.proofs.text_front.TextFront.push.Goals as goal

begins : (c : goal.After-self-1) → StartsWith c.args.section.now (drop c.self.inside.len c.self.inside.text.now)
begins c = subst (StartsWith c.args.section.now) (sym (ap (λ v. v.1) c.self.view_is)) c.requires.stands

grows : (c : goal.After-self-1) → TextGrows c.push_reserved.new.self.items
    (take (c.self.inside.len + length c.args.section.now) c.self.inside.text.now)
    (c.args.self.now.0 ++ section_of c.args.shape.now c.args.changes.now ∷ [])
grows c =
    let flags : length c.shape.inside.flags.now ≡ length c.args.shape.now.flags =
    ap (λ (s : Shape). length s.flags) c.shape.view_is in
    let name : length c.shape.inside.name.now ≡ length c.args.shape.now.name =
    ap (λ (s : Shape). length s.name) c.shape.view_is in
    let long = head_long c.args.shape.now c.args.section.now c.args.changes.now c.requires.parts in
    front_grows c.self.inside.ats.items c.push_reserved.new.self.items c.args.self.now.0 c.self.inside.text.now
    c.args.section.now c.args.changes.now c.self.inside.len c.in_ok-at.at c.args.shape.now c.self.invariant.1
    (ap (λ v. v.0) c.self.view_is) (begins c) c.requires.parts c.requires.canonical
    (record {
      head = omega (arith, c.in_ok-at.ensures.0, long, flags, name);
      columns = c.in_ok-at.ensures.1;
      name = c.in_ok-at.ensures.2;
      size = c.in_ok-at.ensures.3 ∙ ap length c.requires.canonical.parts;
      count = c.in_ok-at.ensures.4 ∙ c.requires.count;
    })
    (c.push_reserved.ensures.items ∙ ap (λ (xs : List At). xs ++ c.in_ok-at.at ∷ []) c.in_ok-reserve.ensures.items)

pub invariant_of-self-2 : goal.invariant_of-self-2
invariant_of-self-2 c =
    (begun_within c.args.section.now c.self.inside.text.now c.self.inside.len (begins c) c.self.invariant.0, (grows c).stands)

pub returns-clause-ok : goal.returns-clause-ok
returns-clause-ok c =
    let behind = sym (drop-drop (length c.args.section.now) c.self.inside.len c.self.inside.text.now)
    ∙ ap (λ v. drop (length c.args.section.now) v.1) c.self.view_is in
    (λ i. ((grows c).says i, behind i))
