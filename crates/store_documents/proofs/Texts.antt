-- The text that a file comes to.
use Rattle.std.proofs.Common.{◌≡◌, ℕ, ◌+◌, Bool, true, false, not, cond, ◌&&◌, ◌==◌, nat_lt}
use Rattle.std.proofs.Common.{List, [], ◌∷◌, ◌++◌, length, map, Some, None, refl, sym, ap, ◌∙◌, arith, suc, rules}
use Rattle.std.specs.List.{list_all, position_or_len, prefix_len}
use Rattle.std.specs.Option.{option_to_list}
use Rattle.std.proofs.lemmas.Bool.{and_parts, and_from, not-true, both_ways}
use Rattle.std.proofs.lemmas.Bool.Decides.{nat_tests}
use Rattle.std.proofs.lemmas.List.Folds.{list_all-append}
use Rattle.std.proofs.lemmas.List.Sums.{prefix_len-le-length}
use Rattle.std.proofs.lemmas.List.{map-append}
use Rattle.event_bytes.specs.Bytes.{is_text_byte, carriage_return}
use Rattle.store_documents.specs.HostText.{line_feed, host_byte, exported, returned, text_after, is_strange}
use Rattle.store_documents.specs.HostText.{first_strange, question_mark, printed_byte, printable}

pub map_twice : {A : Type 0} (f : A → ℕ) (g : ℕ → ℕ) (xs : List A) → map g (map f xs) ≡ map (λ x. g (f x)) xs
map_twice f g [] = refl
map_twice f g (x ∷ xs) = ap (λ ys. g (f x) ∷ ys) (map_twice f g xs)

-- a list whose longest front that passes is the whole list
pub all_of_prefix : {A : Type 0} (p : A → Bool) (xs : List A) → prefix_len p xs ≡ length xs → list_all p xs ≡ true
all_of_prefix p [] whole = refl
all_of_prefix p (x ∷ xs) whole = by_case (λ e. all_of_prefix p xs e) (p x) whole
  where
    by_case : (prefix_len p xs ≡ length xs → list_all p xs ≡ true) → (b : Bool)
        → cond b (1 + prefix_len p xs) 0 ≡ suc (length xs) → (b && list_all p xs) ≡ true
    by_case rest true e = rest (omega arith)
    by_case rest false e = absurd (let wrong : 0 ≡ suc (length xs) = e in omega arith)

-- where no byte is strange all are of a text or line feeds
pub none_strange : (file : List ℕ) → first_strange file ≡ None → list_all (λ b. not (is_strange b)) file ≡ true
none_strange file none =
    all_of_prefix (λ b. not (is_strange b)) file
    (by_case (nat_lt (position_or_len is_strange file) (length file)) refl none)
  where
    by_case : (b : Bool) → nat_lt (position_or_len is_strange file) (length file) ≡ b
        → cond b (Some (position_or_len is_strange file)) None ≡ None
        → position_or_len is_strange file ≡ length file
    by_case true is e = search rules
    by_case false is e = let le = prefix_len-le-length (λ b. not (is_strange b)) file in grind (arith, nat_tests)

twice_not : (t : Bool) → not (not t) ≡ true → (t && true) ≡ true
twice_not true e = refl
twice_not false e = e

-- one byte of a file comes to bytes of a text
returned_text : (before b : ℕ) → not (is_strange b) ≡ true
    → list_all is_text_byte (option_to_list (returned before b)) ≡ true
unfolding is_text_byte
returned_text before b plain = by_case (b == line_feed) (before == carriage_return) plain
  where
    by_case : (feed after : Bool) → not (not feed && not (is_text_byte b)) ≡ true
        → list_all is_text_byte (option_to_list (cond feed (cond after None (Some carriage_return)) (Some b))) ≡ true
    by_case true true e = refl
    by_case true false e = refl
    by_case false after e = twice_not _ e

mark_plain : not (is_strange question_mark) ≡ true
unfolding is_text_byte
mark_plain = refl

-- a file without strange bytes comes to a text
pub plain_text : (before : ℕ) (file : List ℕ) → list_all (λ b. not (is_strange b)) file ≡ true
    → list_all is_text_byte (text_after before file) ≡ true
plain_text before [] plain = refl
plain_text before (b ∷ file) plain = let both = and_parts _ _ plain in
    list_all-append is_text_byte (option_to_list (returned before b)) (text_after b file)
    ∙ and_from _ _ (returned_text before b both.0) (plain_text b file both.1)

-- ---- what goes out comes back

same_return : (b : ℕ) → (b == carriage_return) ≡ true → b ≡ carriage_return
same_return b is = grind (arith, nat_tests)

same_feed : (b : ℕ) → (b == line_feed) ≡ true → b ≡ line_feed
same_feed b is = grind (arith, nat_tests)

text_has_no_feed : (b : ℕ) → is_text_byte b ≡ true → (b == line_feed) ≡ false
unfolding is_text_byte
text_has_no_feed b text = by_case (b == line_feed) refl
  where
    by_case : (feed : Bool) → (b == line_feed) ≡ feed → (b == line_feed) ≡ false
    by_case false is = is
    by_case true is = absurd (both_ways _ (ap is_text_byte (same_feed b is)) text)

-- what goes to the host is no CR
out_is_no_return : (b : ℕ) → (host_byte b == carriage_return) ≡ false
out_is_no_return b = by_case (b == carriage_return) refl
  where
    by_case : (r : Bool) → (b == carriage_return) ≡ r → (cond r line_feed b == carriage_return) ≡ false
    by_case true is = refl
    by_case false is = is

-- one byte of a document, to the host and back, after a byte that is no CR
out_and_in : (before b : ℕ) → (before == carriage_return) ≡ false → is_text_byte b ≡ true
    → option_to_list (returned before (host_byte b)) ≡ b ∷ []
out_and_in before b other text = by_case (b == carriage_return) refl
  where
    by_case : (r : Bool) → (b == carriage_return) ≡ r → option_to_list (returned before (cond r line_feed b)) ≡ b ∷ []
    by_case true is =
        ap (λ after. option_to_list (cond after None (Some carriage_return))) other
        ∙ ap (λ n. n ∷ []) (sym (same_return b is))
    by_case false is =
        ap (λ feed. option_to_list (cond feed (cond (before == carriage_return) None (Some carriage_return)) (Some b)))
        (text_has_no_feed b text)

pub exported_back : (before : ℕ) (text : List ℕ) → (before == carriage_return) ≡ false
    → list_all is_text_byte text ≡ true → text_after before (exported text) ≡ text
exported_back before [] other are = refl
exported_back before (b ∷ text) other are = let both = and_parts _ _ are in
    ap (λ front. front ++ text_after (host_byte b) (exported text)) (out_and_in before b other both.0)
    ∙ ap (λ rest. b ∷ rest) (exported_back (host_byte b) text (out_is_no_return b) both.1)

-- one byte of a file without CR, to a document and back
in_and_out : (before b : ℕ) → (before == carriage_return) ≡ false → (b == carriage_return) ≡ false
    → map host_byte (option_to_list (returned before b)) ≡ b ∷ []
in_and_out before b other plain = by_case (b == line_feed) refl
  where
    by_case : (feed : Bool) → (b == line_feed) ≡ feed
        → map host_byte (option_to_list (cond feed (cond (before == carriage_return) None (Some carriage_return)) (Some b)))
        ≡ b ∷ []
    by_case true is =
        ap (λ after. map host_byte (option_to_list (cond after None (Some carriage_return)))) other
        ∙ ap (λ n. n ∷ []) (sym (same_feed b is))
    by_case false is = ap (λ r. cond r line_feed b ∷ []) plain

pub imported_back : (before : ℕ) (file : List ℕ) → (before == carriage_return) ≡ false
    → list_all (λ b. not (b == carriage_return)) file ≡ true → exported (text_after before file) ≡ file
imported_back before [] other are = refl
imported_back before (b ∷ file) other are = let both = and_parts _ _ are in
    let plain = not-true _ both.0 in
    map-append host_byte (option_to_list (returned before b)) (text_after b file)
    ∙ ap (λ front. front ++ exported (text_after b file)) (in_and_out before b other plain)
    ∙ ap (λ rest. b ∷ rest) (imported_back b file plain both.1)

-- ---- what a terminal gets

same_mark : (s : Bool) (n : ℕ) → s ≡ false → cond s question_mark n ≡ n
same_mark true n is = absurd (both_ways _ is refl)
same_mark false n is = refl

-- a byte of a text, and a line feed, is not strange
fed_plain : (b : ℕ) → is_text_byte b ≡ true → is_strange (host_byte b) ≡ false
fed_plain b text = by_case (b == carriage_return) refl
  where
    by_case : (r : Bool) → (b == carriage_return) ≡ r → is_strange (cond r line_feed b) ≡ false
    by_case true is = refl
    by_case false is =
        ap (λ feed. not feed && not (is_text_byte b)) (text_has_no_feed b text) ∙ ap not text

pub printable_same : (text : List ℕ) → list_all is_text_byte text ≡ true → printable text ≡ exported text
printable_same [] are = refl
printable_same (b ∷ text) are = let both = and_parts _ _ are in
    ap (λ c. c ∷ printable text) (same_mark _ (host_byte b) (fed_plain b both.0))
    ∙ ap (λ rest. host_byte b ∷ rest) (printable_same text both.1)

marked_plain : (b : ℕ) → not (is_strange (printed_byte b)) ≡ true
marked_plain b = by_case (is_strange b) refl
  where
    by_case : (s : Bool) → is_strange b ≡ s → not (is_strange (cond s question_mark b)) ≡ true
    by_case true is = mark_plain
    by_case false is = ap not is

pub printable_plain : (text : List ℕ) → list_all (λ b. not (is_strange b)) (printable text) ≡ true
printable_plain [] = refl
printable_plain (b ∷ text) = and_from _ _ (marked_plain (host_byte b)) (printable_plain text)
