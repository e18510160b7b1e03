-- Eight bytes are those of the number that they encode.
use Rattle.std.proofs.Common.{◌≡◌, ℕ, zero, suc, ◌^◌, ◌<◌, List, [], ◌∷◌, length, take, refl, ap, ◌∙◌}
use Rattle.std.proofs.Common.{arith}
use Rattle.std.specs.Int.{w64, from_be_bytes, to_be_bytes, cast_signed, cast_unsigned}
use Rattle.std.proofs.lemmas.Int.{of_z-to_z}
use Rattle.std.proofs.lemmas.Nat.{be_bytes_8}
use Rattle.cs_model.specs.Bytes.{AreBytes}

take_bytes : (n : ℕ) (bytes : List ℕ) → AreBytes bytes → AreBytes (take n bytes)
take_bytes zero bytes are i = omega arith
take_bytes (suc n) [] are i = omega arith
take_bytes (suc n) (b ∷ bytes) are zero = are zero
take_bytes (suc n) (b ∷ bytes) are (suc i) = take_bytes n bytes (λ j. are (suc j)) i

number_below : (bytes : List ℕ) → AreBytes bytes → from_be_bytes w64 bytes < 2 ^ 64
number_below bytes are = omega (arith, are 0, are 1, are 2, are 3, are 4, are 5, are 6, are 7)

-- the eight bytes after a type byte
pub eight_bytes : (bytes rest : List ℕ) (kind : ℕ) → bytes ≡ kind ∷ rest → AreBytes bytes → AreBytes (take 8 rest)
eight_bytes bytes rest kind whole are =
    let behind : AreBytes rest = λ i. (let b = are (suc i) in rw whole at b) in
    take_bytes 8 rest behind

-- eight bytes are those of the number that they encode
pub number_back : (text : List ℕ) → length text ≡ 8 → AreBytes text
    → to_be_bytes w64 (cast_unsigned w64 (cast_signed w64 (from_be_bytes w64 text))) ≡ text
number_back text long are =
    let n = from_be_bytes w64 text in
    ap (λ (k : ℕ). to_be_bytes w64 k) (of_z-to_z w64 n (number_below text are)) ∙ be_bytes_8 text n long are refl
