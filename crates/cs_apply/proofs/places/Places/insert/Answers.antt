use Rattle.std.proofs.Common.{◌≡◌, ◌∷◌, ◌++◌, [], Some, None, slice_get, refl, sym, ap, rules, ◌∙◌}
use Rattle.std.specs.List.{position_or_len}
use Rattle.std.specs.Map.{lookup, keys_of}
use Rattle.indexmap.proofs.CallerLemmas.{insert_entry-new}
use Rattle.cs_apply.proofs.rows_by_key.Keys.{same_key}
use Rattle.cs_apply.proofs.stored.Filled.{put_new, put_again, put_taken, at_position, is_none}
use Rattle.cs_apply.specs.Steps.{rows_of, put}
use Rattle.cs_apply.proofs.stored.Log.{Back-push}
use Rattle.cs_apply.proofs.places.Places.insert.Goals as goal

pub returns-in-Vacant : goal.returns-in-Vacant
returns-in-Vacant c =
    let e = c.in_ok-end.ensures in
    let old = c.args.self.now.rows in
    let none = rw c.in-Vacant.is at e.found in
    let same = rw c.in-Vacant.is at e.same_map in
    let is = c.self-in-Vacant-2-1.given.1 (sym same) in
    let put = rw c.in-Vacant.is at (e.update.1 c.insert.result.now) in
    let pushed : c.self-in-Vacant-2-1.given.0.entries ≡ old.entries ++ (c.args.key, c.insert.result.now) ∷ [] =
    ap (λ m. m.entries) is ∙ put ∙ insert_entry-new same_key old c.args.key c.insert.result.now none in
    record {
      ok = put_new old.entries _ c.args.key c.args.row e.unique none
          (pushed ∙ ap (λ v. old.entries ++ (c.args.key, v) ∷ []) c.insert.ensures.value);
      back = Back-push c.args.self.now _ (c.args.key, c.insert.result.now) pushed refl;
      refused = search rules;
    }

pub returns-then-is_some-clause-refused : goal.returns-then-is_some-clause-refused
returns-then-is_some-clause-refused c =
    let e = c.in_ok-end.ensures in
    let value = rw c.in-Occupied.is at e.value in
    let get = c.get.ensures in
    put_taken c.args.self.now.rows.entries c.args.key c.args.row c.get.result.now e.unique (sym value ∙ get)
    c.if-is_some.ensures

pub returns-clause-ok : goal.returns-clause-ok
returns-clause-ok c =
    let e = c.in_ok-end.ensures in
    let es = c.args.self.now.rows.entries in
    let same = rw c.in-Occupied.is at e.same_map in
    let unchanged = rw c.in-Occupied.is at e.unchanged in
    let rows : c.self-in-Occupied-1.given.0.entries ≡ es = ap (λ m. m.entries) (c.self-in-Occupied-1.given.1 (sym same))
    ∙ unchanged in
    let value = rw c.in-Occupied.is at e.value in
    let found : lookup (same_key c.args.key) es ≡ Some None = sym value ∙ c.get.ensures
    ∙ ap Some (is_none c.get.result.now c.if-is_some.ensures) in
    let index = rw c.in-Occupied.is at e.index in
    let here : c.index-place.result ≡ position_or_len (same_key c.args.key) (keys_of es) = c.index-place.ensures
    ∙ index in
    let at : slice_get c.self-in-Occupied-1.given.0.entries c.index-place.result ≡ Some (c.args.key, None) =
    (λ i. slice_get (rows i) (here i)) ∙ at_position es c.args.key None found in
    put_again es c.set.new.self.rows.entries c.args.key c.args.row e.unique found
    (c.in_ok-set.ensures.ok c.args.key None at ∙ ap (λ l. put (rows_of l) c.args.key (Some c.args.row)) rows)
