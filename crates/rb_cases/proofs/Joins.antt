-- Answers to pieces joined, one line of the script after another.
use Rattle.std.proofs.Common.{◌≡◌, ℕ, ◌+◌, min, List, [], ◌∷◌, ◌++◌, length, map, take, drop, refl, sym, ap, ◌∙◌}
use Rattle.std.proofs.lemmas.List.{take-map, drop-map, drop-drop, take_min, drop_min, map-append}
use Rattle.rb_cases.specs.Joining.{last_of_answers, other_than, piece_answer, rows_after, left_after}

pub last_pushed : (answers : List (List ℕ)) (answer : List ℕ) → last_of_answers (answers ++ answer ∷ []) ≡ answer
last_pushed [] answer = refl
last_pushed (a ∷ []) answer = refl
last_pushed (a ∷ b ∷ answers) answer = last_pushed (b ∷ answers) answer

-- as many as there are, seen as what they hold
pub first_seen : {A : Type 0} (see : A → List ℕ) (n : ℕ) (xs : List A) → map see (take (min n (length xs)) xs)
    ≡ take n (map see xs)
first_seen see n xs = ap (map see) (take_min n xs) ∙ sym (take-map see n xs)

pub rest_seen : {A : Type 0} (see : A → List ℕ) (n : ℕ) (xs : List A) → map see (drop (min n (length xs)) xs)
    ≡ drop n (map see xs)
rest_seen see n xs = ap (map see) (drop_min n xs) ∙ sym (drop-map see n xs)

-- what is left of the answers after those to a line of n pieces
pub left_is : {A : Type 0} (see : A → List ℕ) (n r pieces rows : ℕ) (given these others : List A) (answer : A)
    → pieces ≡ min n (length given) → others ≡ drop pieces given → rows ≡ min r (length others)
    → map see these ≡ take n (map see given)
    → see answer ≡ piece_answer (map see these) → r ≡ rows_after (see answer)
    → map see (drop (pieces + rows) given) ≡ left_after n (map see given)
left_is see n r pieces rows given these others answer few behind some front is count =
    let all = map see given in
    let this : see answer ≡ piece_answer (take n all) = is ∙ ap piece_answer front in
    let back : map see others ≡ drop n all =
    ap (map see) behind ∙ ap (λ k. map see (drop k given)) few ∙ rest_seen see n given in
    ap (map see) (sym (drop-drop rows pieces given)) ∙ ap (λ l. map see (drop rows l)) (sym behind)
    ∙ ap (λ k. map see (drop k others)) some ∙ rest_seen see r others
    ∙ ap (λ k. drop k (map see others)) (count ∙ ap rows_after this)
    ∙ ap (drop (rows_after (piece_answer (take n all)))) back

-- the last answer is that of a list that ends with it
pub chosen_by_last : {A : Type 0} (see : A → List ℕ) (answers rest : List A) (last : A) → answers ≡ rest ++ last ∷ []
    → other_than (see last) (map see answers) ≡ piece_answer (map see answers)
chosen_by_last see answers rest last parts =
    let ends : last_of_answers (map see answers) ≡ see last =
    ap (λ l. last_of_answers (map see l)) parts ∙ ap last_of_answers (map-append see rest (last ∷ []))
    ∙ last_pushed (map see rest) (see last) in
    ap (λ l. other_than l (map see answers)) (sym ends)
