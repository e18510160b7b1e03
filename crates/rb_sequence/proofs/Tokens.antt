-- A token as a value of the program, made of what it owns.
use Rattle.std.proofs.Common.{ℕ, [], ◌∷◌, refl}
use seplogic.Ra.Ura.{Ura}
use mir.Val.{Val, vstruct, vcons, vnil}
use base.Logic.{ent}
use types.Logic.{Logic, sem}
use types.Kit.{‵, ◌$◌, ◌∵◌, !, qed, use0, done}
use denote.RattleType.{RattleType}
use denote.Shadow.{makes_shadow}
use denote.Struct.Struct.{Struct}
use denote.Struct.Owning.{shape}
use Rattle.std.specs.declared.option.Option.TheVariants.{Some}
use Rattle.once_cell.specs.Once.{noted}
use Rattle.rb_sequence.specs.contracts.written.Written as Written

abbrev pub token_val : Val
token_val = vstruct (vcons (vstruct vnil) vnil)

pub written_made : {M : Type 1} {𝓤 : Ura M} (𝓛 : Logic 𝓤) (R : RattleType) (γ : ℕ) (x : R.Denot)
    → let token : (Written.the_row R).Denot = record { marker = record {}; cell = γ; value = x } in
    ent 𝓤 (sem 𝓛 (noted R γ (Some x))) (sem 𝓛 ((Written.the_row R).own_val token (token_val ∷ [])))
written_made 𝓛 R γ x = let F = (Struct (shape (Written.the_type R))).own_val (tt, tt) (token_val ∷ []) in
    qed 𝓛 (‵ (noted R γ (Some x)) ∷ []) ∵
    use0 𝓛 (‵ F) (makes_shadow 𝓛 F (λ vss. (tt, ((λ uss. (tt, tt)), tt)))
    ((vstruct vnil ∷ [], tt), (refl, ((tt, (refl, tt)), tt)))) $ done !
