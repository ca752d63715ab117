-- Texts that are written anew, step by step: the characters of a piece, the pieces of a text, the texts of a table.
use Rattle.std.specs.Prelude.{◌≡◌, ℕ, ◌+◌, ◌<◌, ◌≤◌, ◌^◌, List, [], ◌∷◌, ◌++◌, length, slice_index, All, Ok}
use Rattle.std.specs.Map.{values_of}
use Rattle.std.specs.Cmp.{IsTotalOrder}
use Rattle.std.specs.BTreeMap.{insert_entry}
use Rattle.std.specs.List.{AllByRecursion}
use Rattle.std.specs.List.Sorted.{IsStrictlySortedBy}
use Rattle.std.specs.Ordering.{ordering_reverse}
use Rattle.std.specs.declared.cmp.Ordering.{Ordering}
use Rattle.std.specs.declared.cmp.Ordering.TheVariants.{Less, Greater}
use Rattle.std.proofs.Common.{refl, sym, ap, subst, ◌∙◌, arith, append_assoc}
use Rattle.std.proofs.lemmas.List.{map-append}
use Rattle.std.proofs.lemmas.List.Elements.{All-head, All-tail}
use Rattle.std.proofs.lemmas.List.Sums.{sum_by-cons}
use Rattle.char_file.specs.declared.source.CharSource.{Ghosts}
use Rattle.char_file.specs.Source.{OnlyReads}
use Rattle.char_file.proofs.Reading.{read_on}
use Rattle.piece_ring.specs.Flat.{IsWhole, run, characters_of}
use Rattle.piece_ring.proofs.Lengths.{length-run}
use Rattle.piece_ring.specs.Text.{AreWithin}
use Rattle.piece_ring.proofs.Runs.{run-append, length-flat-cons}
use Rattle.readers_scanners.specs.Reading.{bytes_of_text}
use Rattle.readers_scanners.proofs.Counting.{bytes-append, end_within}
use Rattle.desktop_definitions.specs.Words.{keys_of, Look, Piece, Text, flat}
use Rattle.desktop_definitions.specs.Sound.{AllWithin}
use Rattle.desktop_definitions.proofs.TableLaws.{kept_lengths}
use Rattle.desktop_definitions.specs.Rewriting.{laid, flats, laid_table, bytes_in}
use Rattle.desktop_definitions.proofs.RewritingLaws.{laid-append, laid-run}
use Rattle.desk_commands.specs.Rewriting.{CanPut, Rewrites}

-- ---- the characters of a piece

-- one more of them, read as it stands there
pub piece_on : (old front made made' : List ℕ) (off n byte : ℕ) (look : Look) → made' ≡ made ++ byte ∷ []
    → byte ≡ slice_index old (off + n) → made ≡ front ++ bytes_of_text old (run off n look)
    → made' ≡ front ++ bytes_of_text old (run off (n + 1) look)
piece_on old front made made' off n byte look pushed is was =
    pushed
    ∙ (λ k. was k ++ is k ∷ [])
    ∙ append_assoc front (bytes_of_text old (run off n look)) (slice_index old (off + n) ∷ [])
    ∙ ap (λ (l : List ℕ). front ++ l) (sym (ap (bytes_of_text old) (run-append off n 1 look)
    ∙ bytes-append old (run off n look) ((off + n, look) ∷ [])))

-- ---- the pieces of a text

-- what holds of all of a list holds of what follows some of it
rest_of : (P : ℕ × Look → Type 0) (a b : Text ℕ) → All P (a ++ b) → All P b
rest_of P [] b all = all
rest_of P (x ∷ a) b all = rest_of P a b (All-tail P x (a ++ b) all)

module _ {p : Piece} {left rest : List Piece} (first : left ≡ p ∷ rest) where
  pub piece_inside : {n : ℕ} → IsWhole p → AreWithin n (flat left) → p.off + p.len ≤ n
  piece_inside {n} whole within =
      let some : 0 < p.len = whole.0 in
      end_within (flat left) 0 (length (flat left)) p (flat rest) (record {
        counted = omega arith;
        rest = ap (λ (ps : List Piece). flat ps) first;
        last = λ none. absurd (omega (arith, none, some));
        fits = whole.1;
      }) n within some

  pub rest_inside : {n : ℕ} → AreWithin n (flat left) → AreWithin n (flat rest)
  rest_inside {n} within =
      rest_of (λ (c : ℕ × Look). c.0 < n) (characters_of p) (flat rest)
      (subst (λ (ps : List Piece). AreWithin n (flat ps)) first within)

  pub piece_long : length (flat left) ≡ p.len + length (flat rest)
  piece_long = ap (λ (ps : List Piece). length (flat ps)) first ∙ length-flat-cons p rest

  laid_first : (n m : ℕ) → m ≡ n + p.len → laid n (flat left) ≡ run n p.len p.look ++ laid m (flat rest)
  laid_first n m more =
      let here : n + length (characters_of p) ≡ m = omega (arith, length-run p.off p.len p.look, more) in
      ap (λ (ps : List Piece). laid n (flat ps)) first ∙ laid-append n (characters_of p) (flat rest)
      ∙ (λ k. laid-run n p.off p.len p.look k ++ laid (here k) (flat rest))

  -- one more of the pieces, in the new text and among the characters
  pub text_on : (text text' all : Text ℕ) (n m : ℕ) → m ≡ n + p.len → text' ≡ text ++ run n p.len p.look
      → text ++ laid n (flat left) ≡ all → text' ++ laid m (flat rest) ≡ all
  text_on text text' all n m more added was =
      ap (λ (l : Text ℕ). l ++ laid m (flat rest)) added
      ∙ append_assoc text (run n p.len p.look) (laid m (flat rest))
      ∙ ap (λ (l : Text ℕ). text ++ l) (sym (laid_first n m more)) ∙ was

  pub bytes_on : (old made made' all : List ℕ) → made' ≡ made ++ bytes_of_text old (characters_of p)
      → made ++ bytes_of_text old (flat left) ≡ all → made' ++ bytes_of_text old (flat rest) ≡ all
  bytes_on old made made' all added was =
      ap (λ (l : List ℕ). l ++ bytes_of_text old (flat rest)) added
      ∙ append_assoc made (bytes_of_text old (characters_of p)) (bytes_of_text old (flat rest))
      ∙ ap (λ (l : List ℕ). made ++ l) (sym (ap (λ (ps : List Piece). bytes_of_text old (flat ps)) first
      ∙ bytes-append old (characters_of p) (flat rest))) ∙ was

-- ---- keys that rise

-- a key above all others is put at the end
insert_last : {K X : Type 0} {cmp : K → K → Ordering} → IsTotalOrder cmp → (table : List (K × X)) (k : K) (x : X)
    → AllByRecursion (λ y. cmp y k ≡ Less) (keys_of table) → insert_entry cmp table k x ≡ table ++ (k, x) ∷ []
insert_last order [] k x below = refl
insert_last {K} {X} {cmp} order (e ∷ es) k x below =
    let above : cmp k e.0 ≡ Greater = order.antisymm k e.0 ∙ ap ordering_reverse below.0 in
    rw above (ap (λ (t : List (K × X)). e ∷ t) (insert_last order es k x below.1))

below_one : {K : Type 0} (cmp : K → K → Ordering) (x : K) (ks : List K) (k : K) (rest : List K)
    → AllByRecursion (λ y. cmp x y ≡ Less) (ks ++ k ∷ rest) → cmp x k ≡ Less
below_one cmp x [] k rest all = all.0
below_one cmp x (y ∷ ks) k rest all = below_one cmp x ks k rest all.1

all_below : {K : Type 0} (cmp : K → K → Ordering) (ks : List K) (k : K) (rest : List K)
    → IsStrictlySortedBy cmp (ks ++ k ∷ rest) → AllByRecursion (λ y. cmp y k ≡ Less) ks
unfolding IsStrictlySortedBy
all_below cmp [] k rest sorted = tt
all_below cmp (x ∷ ks) k rest sorted = (below_one cmp x ks k rest sorted.0, all_below cmp ks k rest sorted.1)

-- ---- the texts of a table

-- Some texts of a table were written anew, those to come stand behind them, and nothing failed.
pub record ArePut {K S : Type 0} (s : Ghosts S) (all left new : List (K × List Piece)) (front made : List ℕ)
    (old now : S) : Type 0
  where
    pub laid_on : flats new ++ laid_table (length made) (flats left) ≡ laid_table (length front) (flats all)
    pub keys : keys_of new ++ keys_of left ≡ keys_of all
    pub read : s.honest old → made ++ bytes_in (s.characters old) (flats left)
        ≡ front ++ bytes_in (s.characters old) (flats all)
    pub longer : length made + kept_lengths left ≡ length front + kept_lengths all
    pub inside : AllWithin (length (s.characters now)) left
    pub reads : OnlyReads s.characters s.failures s.honest s.same_ground old now
    pub calm : s.failures now ≡ s.failures old

module _ {K : Type 0} {e : K × List Piece} {left later : List (K × List Piece)} (first : left ≡ e ∷ later) where
  one_inside : {n : ℕ} → AllWithin n left → AreWithin n (flat e.1)
  one_inside {n} within =
      All-head (λ pieces. AreWithin n (flat pieces)) e.1 (values_of later) (subst (AllWithin n) first within)

  table_long : kept_lengths left ≡ length (flat e.1) + kept_lengths later
  table_long = ap (λ (es : List (K × List Piece)). kept_lengths es) first
      ∙ sum_by-cons (λ pieces. length (flat pieces)) e.1 (values_of later)

  -- the text that comes next can be put
  pub one_ready : {S : Type 0} {s : Ghosts S} {all new : List (K × List Piece)} {front made : List ℕ} {old now : S}
      → ArePut s all left new front made old now → length front + kept_lengths all < 2 ^ 32
      → CanPut (length (s.characters now)) (flat e.1) made
  one_ready were room = record {
    inside = one_inside were.inside;
    room = omega (arith, table_long, were.longer, room);
  }

  -- the text that comes next is put at the end
  pub put_last : {cmp : K → K → Ordering} {all : List K} (order : IsTotalOrder cmp)
      (new : List (K × List Piece)) (moved : List Piece) → IsStrictlySortedBy cmp all
      → keys_of new ++ keys_of left ≡ all → insert_entry cmp new e.0 moved ≡ new ++ (e.0, moved) ∷ []
  put_last {cmp = cmp} order new moved sorted was =
      insert_last order new e.0 moved (all_below cmp (keys_of new) e.0 (keys_of later)
      (subst (IsStrictlySortedBy cmp)
      (sym was ∙ ap (λ (es : List (K × List Piece)). keys_of new ++ keys_of es) first) sorted))

  module _ {S : Type 0} (s : Ghosts S) (through : (a b c : S) → s.same_ground a b → s.same_ground b c
      → s.same_ground a c) (all new : List (K × List Piece)) (front made made' : List ℕ) (moved : List Piece)
      (old now after : S) (were : ArePut s all left new front made old now)
      (one : Rewrites s (flat e.1) (Ok moved) now after made made') where
    laid_further : flats (new ++ (e.0, moved) ∷ []) ++ laid_table (length made') (flats later)
        ≡ laid_table (length front) (flats all)
    laid_further =
        ap (λ (l : List (K × Text ℕ)). l ++ laid_table (length made') (flats later))
        (map-append (λ (x : K × List Piece). (x.0, flat x.1)) new ((e.0, moved) ∷ []))
        ∙ append_assoc (flats new) ((e.0, flat moved) ∷ []) (laid_table (length made') (flats later))
        ∙ (λ k. flats new ++ ((e.0, one.stands k) ∷ laid_table (one.adds.longer k) (flats later)))
        ∙ ap (λ (es : List (K × List Piece)). flats new ++ laid_table (length made) (flats es)) (sym first)
        ∙ were.laid_on

    keys_further : keys_of (new ++ (e.0, moved) ∷ []) ++ keys_of later ≡ keys_of all
    keys_further =
        ap (λ (l : List K). l ++ keys_of later)
        (map-append (λ (x : K × List Piece). x.0) new ((e.0, moved) ∷ []))
        ∙ append_assoc (keys_of new) (e.0 ∷ []) (keys_of later)
        ∙ ap (λ (es : List (K × List Piece)). keys_of new ++ keys_of es) (sym first) ∙ were.keys

    read_further : s.honest old → made' ++ bytes_in (s.characters old) (flats later)
        ≡ front ++ bytes_in (s.characters old) (flats all)
    read_further honest =
        let c = s.characters old in
        let added : made' ≡ made ++ bytes_of_text c (flat e.1) =
        one.adds.read (were.reads.still honest) ∙ ap (λ (l : List ℕ). made ++ bytes_of_text l (flat e.1)) (were.reads.same honest) in
        ap (λ (l : List ℕ). l ++ bytes_in c (flats later)) added
        ∙ append_assoc made (bytes_of_text c (flat e.1)) (bytes_in c (flats later))
        ∙ ap (λ (es : List (K × List Piece)). made ++ bytes_in c (flats es)) (sym first) ∙ were.read honest

    inside_further : AllWithin (length (s.characters after)) later
    inside_further =
        subst (λ n. AllWithin n later) (sym one.adds.reads.as_long)
        (All-tail (λ pieces. AreWithin (length (s.characters now)) (flat pieces)) e.1 (values_of later)
        (subst (AllWithin (length (s.characters now))) first were.inside))

    -- one more of the texts
    pub put_on : ArePut s all later (new ++ (e.0, moved) ∷ []) front made' old after
    put_on = record {
      laid_on = laid_further;
      keys = keys_further;
      read = read_further;
      longer = omega (arith, were.longer, one.adds.longer, table_long);
      inside = inside_further;
      reads = read_on s.characters s.failures s.honest s.same_ground through old now after were.reads one.adds.reads;
      calm = one.adds.faults.calm (λ wrong. absurd cc) ∙ were.calm;
    }

  -- The same where that text was put into the table by its key.
  pub put_further : {S : Type 0} (s : Ghosts S) (through : (a b c : S) → s.same_ground a b → s.same_ground b c
      → s.same_ground a c) {all new table : List (K × List Piece)} {front made made' : List ℕ} {old now after : S}
      {cmp : K → K → Ordering} {k : K} (moved : List Piece)
      → IsTotalOrder cmp → IsStrictlySortedBy cmp (keys_of all) → ArePut s all left new front made old now
      → Rewrites s (flat e.1) (Ok moved) now after made made'
      → k ≡ e.0 → table ≡ insert_entry cmp new k moved
      → ArePut s all later table front made' old after
  put_further s through {all = all} {new = new} {front = front} {made = made} {made' = made'} {old = old} {now = now}
      {after = after} {cmp = cmp} moved order sorted were one same is =
      subst (λ (table : List (K × List Piece)). ArePut s all later table front made' old after)
      (sym (is ∙ ap (λ (k : K). insert_entry cmp new k moved) same ∙ put_last order new moved sorted were.keys))
      (put_on s through all new front made made' moved old now after were one)
