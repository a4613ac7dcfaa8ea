use Rattle.decimal.proofs.PutLaws.{back_begin, back_inside, back_more, some_digit, back_end, second_inside, two_some, two_more, two_on, next_inside, two_end}
use Rattle.decimal.proofs.put_digits.Goals as goal

pub overflow_sub-i : goal.overflow_sub-i
overflow_sub-i c = search some_digit

pub loop-m-init : goal.loop-m-init
loop-m-init c = search back_begin

pub bounds-out-i : goal.bounds-out-i
bounds-out-i c = search back_inside

pub overflow_sub-out : goal.overflow_sub-out
overflow_sub-out c = search two_some

pub bounds-out-i-in-loop-m : goal.bounds-out-i-in-loop-m
bounds-out-i-in-loop-m c = search second_inside

pub overflow_sub-i-in-loop-m : goal.overflow_sub-i-in-loop-m
overflow_sub-i-in-loop-m c = search two_more

pub loop-m-preserved : goal.loop-m-preserved
loop-m-preserved c = search two_on

pub bounds-out-i-2 : goal.bounds-out-i-2
bounds-out-i-2 c = search back_inside

pub overflow_sub-out-then-m-ge10 : goal.overflow_sub-out-then-m-ge10
overflow_sub-out-then-m-ge10 c = search back_more

pub bounds-out-i-then-m-ge10 : goal.bounds-out-i-then-m-ge10
bounds-out-i-then-m-ge10 c = search next_inside

pub returns-then-m-ge10 : goal.returns-then-m-ge10
returns-then-m-ge10 c = search two_end

pub returns-else-m-ge10 : goal.returns-else-m-ge10
returns-else-m-ge10 c = search back_end
