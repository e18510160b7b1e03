-- Hexadecimal text, some bytes after others.
use Rattle.std.proofs.Common.{◌≡◌, ◌∙◌, ℕ, List, [], ◌∷◌, ◌++◌, refl, ap, sym, append_assoc}
use Rattle.std.proofs.lemmas.List.{append-nil}
use Rattle.std.specs.Prelude.{◌/◌, ◌%◌, slice_index}
use Rattle.hex.specs.Hex.{encode_lower, encode_with, lower_digits}

encoded_append : (digits some more : List ℕ) → encode_with digits (some ++ more)
    ≡ encode_with digits some ++ encode_with digits more
unfolding encode_with
encoded_append digits [] more = refl
encoded_append digits (byte ∷ some) more =
    ap (λ (rest : List ℕ). slice_index digits (byte / 16) ∷ slice_index digits (byte % 16) ∷ rest)
    (encoded_append digits some more)

encoded_none : (digits : List ℕ) → encode_with digits [] ≡ []
unfolding encode_with
encoded_none digits = refl

-- a text, with the bytes that are left in hexadecimal after it
pub hex_goes_on : (made new whole rest piece after : List ℕ) → made ++ encode_lower rest ≡ whole
    → rest ≡ piece ++ after → new ≡ made ++ encode_lower piece → new ++ encode_lower after ≡ whole
hex_goes_on made new whole rest piece after so_far cut is =
    ap (λ t. t ++ encode_lower after) is
    ∙ append_assoc made (encode_lower piece) (encode_lower after)
    ∙ ap (λ t. made ++ t) (sym (encoded_append lower_digits piece after))
    ∙ ap (λ bytes. made ++ encode_lower bytes) (sym cut)
    ∙ so_far

pub hex_ends : (made whole rest : List ℕ) → made ++ encode_lower rest ≡ whole → rest ≡ [] → made ≡ whole
hex_ends made whole rest so_far none =
    sym (append-nil made) ∙ ap (λ t. made ++ t) (sym (encoded_none lower_digits))
    ∙ ap (λ bytes. made ++ encode_lower bytes) (sym none) ∙ so_far

pub hex_append : (some more : List ℕ) → encode_lower (some ++ more) ≡ encode_lower some ++ encode_lower more
hex_append some more = encoded_append lower_digits some more

pub hex_none : encode_lower [] ≡ []
hex_none = encoded_none lower_digits
