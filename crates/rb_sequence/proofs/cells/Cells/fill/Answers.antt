use Rattle.std.proofs.Common.{◌≡◌, ℕ, sym, ap, subst, ◌∙◌}
use Rattle.rb_sequence.specs.Cells.{Cells, HasCell, IsReadyFor, IsSegmentOf, ReadyEntry}
use Rattle.rb_sequence.specs.Segments.{IsLocated}
use Rattle.rb_sequence.proofs.cells.Cells.fill.Goals as goal

-- the cell for which an entry is ready, by its number and its segment's slot
cell_of : (s : Cells) (r : ReadyEntry) (n slot : ℕ) → r.entry.number ≡ n → r.segment ≡ slot → IsReadyFor s r
    → HasCell s n × IsSegmentOf s n slot
cell_of s r n slot number segment ready = (
  subst (HasCell s) number ready.0,
  subst (λ m. IsSegmentOf s m slot) number (subst (IsSegmentOf s r.entry.number) segment ready.1),
)

pub value-cells-requires : goal.value-cells-requires
value-cells-requires c =
    let k = c.locate-segment.result.0 in
    let j = c.locate-segment.result.1 in
    let number : c.ready.inside.number ≡ c.args.ready.entry.number = sym c.ready.invariant.1
    ∙ ap (λ (r : ReadyEntry). r.entry.number) c.ready.view_is in
    ap (λ (r : ReadyEntry). r.segment) c.ready.view_is
    ∙ c.requires.1 k j (subst (λ (n : ℕ). IsLocated n k j) number c.locate-segment.ensures)
    ∙ c.slot.ensures

pub returns-in-Ok-clause-ok : goal.returns-in-Ok-clause-ok
returns-in-Ok-clause-ok c =
    let number = sym (ap (λ (r : ReadyEntry). r.entry.number) c.ready.view_is) ∙ c.ready.invariant.1 in
    let segment = sym (ap (λ (r : ReadyEntry). r.segment) c.ready.view_is) in
    let cell = cell_of c.args.self.now c.args.ready _ _ number segment c.requires in (
      record {
        has = cell.0;
        numbered = ap (λ e. e.number) c.in-Ok.ensures.ok.1 ∙ c.ready.invariant.1;
        segment = cell.1;
      },
      c.in-Ok.ensures.ok.1 ∙ ap (λ (r : ReadyEntry). r.entry) c.ready.view_is,
    )

pub returns-in-Err-clause-err : goal.returns-in-Err-clause-err
returns-in-Err-clause-err c =
    let number = sym (ap (λ (r : ReadyEntry). r.entry.number) c.ready.view_is) ∙ c.ready.invariant.1 in
    let segment = sym (ap (λ (r : ReadyEntry). r.segment) c.ready.view_is) in
    let cell = cell_of c.args.self.now c.args.ready _ _ number segment c.requires in (
      c.into_inner.ensures ∙ c.in-Err.ensures.err.0 ∙ ap (λ (r : ReadyEntry). r.entry) c.ready.view_is,
      record { has = cell.0; segment = cell.1 },
      sym number,
    )
