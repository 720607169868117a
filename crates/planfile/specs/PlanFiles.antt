-- "Each plan of 1 to 4,096 freedoms and 1 to 512 groups has one file, and two plans with the same file are the same
-- plan."
use Rattle.std.specs.Prelude.{◌≡◌, Bool, true, List, ℕ, ◌+◌, ◌*◌, ◌/◌, ◌≤◌, ltb, length, take}
use Rattle.base.specs.Lists.{all}
use Rattle.base.specs.Replies.{accepted, lent}
use Rattle.plan.specs.Groups.{Plan, width, flat}
use Rattle.words.specs.LittleEndian.{unsigned_bytes}
use Rattle.planfile.specs.File.{number_size, file_size, is_carried, file_of, is_file, plan_from}
use Rattle.planfile.specs.Calls.{lent_plan, write_plan_reply, read_plan_reply}

unfoldable pub are_bytes : List ℕ → Bool
are_bytes bytes = all (λ b. ltb b 256) bytes

-- ---- plans and files

-- of one plan
pub record OneFile (p : Plan) : Type 0 where
  -- what is written is a file, and reading it gives the plan back
  pub made : is_file (file_of p) ≡ true
  pub back : plan_from (file_of p) ≡ p
  -- no other file is read as that plan
  pub only : (file : List ℕ) → are_bytes file ≡ true → is_file file ≡ true → plan_from file ≡ p → file ≡ file_of p

-- of one file: it is the file of the plan read, which a file can carry
pub record OnePlan (file : List ℕ) : Type 0 where
  pub carried : is_carried (plan_from file) ≡ true
  pub written : file_of (plan_from file) ≡ file

-- ---- the calls, in bytes

-- what the writer leaves in a list with room, as many bytes as it counts; and the reader, in lists with room
unfoldable pub file_written : (n : ℕ) (order groups : List ℕ) (count : ℕ) (old : List ℕ) → List ℕ
file_written n order groups count old =
    take (file_size n count) (lent (write_plan_reply n order groups count (length old)) (file_of (lent_plan n order groups count)) old)

unfoldable pub order_read : (file order groups : List ℕ) → List ℕ
order_read file order groups = lent (read_plan_reply file order groups) (unsigned_bytes number_size (plan_from file).order) order

unfoldable pub groups_read : (file order groups : List ℕ) → List ℕ
groups_read file order groups =
    lent (read_plan_reply file order groups) (unsigned_bytes number_size (flat (plan_from file).groups)) groups

-- lent bytes hold a plan, and the writer finds room for its file
pub record Written (n : ℕ) (order groups : List ℕ) (count : ℕ) (old : List ℕ) : Type 0 where
  pub order_bytes : are_bytes order ≡ true
  pub groups_bytes : are_bytes groups ≡ true
  pub size : ℕ
  pub accepts : write_plan_reply n order groups count (length old) ≡ accepted size

-- a file is read where there is room for n freedoms and `count` groups: it is accepted, and leaves this plan
pub record ReadAs (n count : ℕ) (p : Plan) (file order groups : List ℕ) : Type 0 where
  pub accepts : read_plan_reply file order groups ≡ accepted (n + 65536 * count)
  pub leaves : lent_plan n (order_read file order groups) (groups_read file order groups) count ≡ p

-- ---- all plans and files

pub record PlanFiles : Type 0 where
  pub of-plan : (p : Plan) → is_carried p ≡ true → OneFile p
  pub of_file : (file : List ℕ) → are_bytes file ≡ true → is_file file ≡ true → OnePlan file
  pub same : (p q : Plan) → is_carried p ≡ true → is_carried q ≡ true → file_of p ≡ file_of q → p ≡ q
  -- in bytes: what was written is read as the plan that was written
  pub read_back : (n : ℕ) (order groups : List ℕ) (count : ℕ) (old : List ℕ) → Written n order groups count old
      → (new_order new_groups : List ℕ) → n ≤ length new_order / number_size → width * count ≤ length new_groups / number_size
      → ReadAs n count (lent_plan n order groups count) (file_written n order groups count old) new_order new_groups
  -- .. and the same bytes written are the same plan
  pub same_bytes : (n : ℕ) (order groups : List ℕ) (count : ℕ) (old : List ℕ) → Written n order groups count old
      → (m : ℕ) (order' groups' : List ℕ) (count' : ℕ) (old' : List ℕ) → Written m order' groups' count' old'
      → file_written n order groups count old ≡ file_written m order' groups' count' old'
      → lent_plan n order groups count ≡ lent_plan m order' groups' count'
