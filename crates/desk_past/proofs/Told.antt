-- What is told of what a store shows.
use Rattle.std.proofs.Common.{◌≡◌, ◌+◌, ℕ, List, length, sym, ◌∙◌, ap, arith}
use Rattle.std.specs.Prelude.{IfNone}
use Rattle.std.specs.declared.option.Option.{Option}
use Rattle.std.specs.Prelude.{Some, None}
use Rattle.sector_disk.specs.Stored.{last_sector}
use Rattle.past_pages.specs.Page.{Page, page_bytes, page_sectors}
use Rattle.store_layout.specs.Meaning.{Standing}

-- where a page ends that holds these bytes
pub page_ends_at : (from end long : ℕ) {bytes : List ℕ} (p : Page) → end ≡ from + (last_sector long + 1)
    → long ≡ length bytes → bytes ≡ page_bytes p → from + page_sectors p ≡ end
page_ends_at from end long p is len same =
    ap (λ n. from + (last_sector n + 1)) (sym (len ∙ ap length same)) ∙ sym is

-- and how many events come before that end
pub counts_on : (told n : ℕ) (s : Standing) (count : ℕ) → s.past.before ≡ told → n ≡ told + count
    → length s.events ≡ count → s.past.before + length s.events ≡ n
counts_on told n s count is before long = omega (arith, is, before, long)

-- what follows from what a clause says where there is no value
pub none_then : {X P Q : Type 0} (o : Option X) → IfNone o P → (P → Q) → IfNone o Q
none_then (Some x) h f = tt
none_then None h f = f h
