-- The grammar of scripts (ECMA-262, 13 to 15, as far as scripts use them), line by line. Each thing that counts as a level of nesting is a rule that is
-- called: blocks, brackets, functions, the bodies of statements, operands of unary operators, `new`, and the right sides of assignments and conditionals.
use Rattle.std.specs.Prelude.{ℕ, ◌+◌, ◌%◌, ◌==◌, Bool, true, false, List, [], ◌∷◌, ◌++◌, if◌then◌else◌, codes}
use Rattle.grammar.specs.Kinds.{among, not}
use Rattle.grammar.specs.Grammar.{Tree, tip, leaf, pair, node, Grammar, empty, token, call, line, both, either, fork, many, named, prefer, starting, on, entry, Language}
use Rattle.js_token.specs.declared.token.Token.{Token}
use Rattle.js_grammar.specs.Kinds.{kind_of, kinds, unbroken_kinds, mark, word, name, names, reserved, number, text, whole_template, template_head, template_middle, template_tail, end}

abbrev pub Rule : Type 0
Rule = Grammar Token

-- ---- small forms

-- one token of these
abbrev pub one : List ℕ → Rule
one classes = token (kinds classes)

-- a punctuator
abbrev pub punctuator : List ℕ → Rule
punctuator spelling = one (mark spelling ∷ [])

-- a reserved word
abbrev pub keyword : List ℕ → Rule
keyword spelling = one (word spelling ∷ [])

abbrev pub an_end : Rule
an_end = one (end ∷ [])

abbrev pub an_of : Rule
an_of = one (name (codes "of") ∷ [])

abbrev pub identifier : Rule
identifier = one names

abbrev pub optional : Rule → Rule
optional x = either x empty

abbrev pub always : Tree Token → Bool
always tree = true

abbrev pub any : Rule → Rule
any x = many always x

-- with a comma between them
abbrev pub commas : Rule → Rule
commas x = both x (any (both (punctuator (codes ",")) x))

-- Behind a comma a member came.
abbrev pub has_member : Tree Token → Bool
has_member (pair comma tip) = false
has_member _ = true

-- with a comma between them, and maybe one behind the last; or none
abbrev pub listed : Rule → Rule
listed x = optional (both x (many has_member (both (punctuator (codes ",")) (optional x))))

-- operands with operators of one line between them
abbrev pub operators : List ℕ → Rule → Rule
operators classes x = both x (any (both (one classes) x))

-- A node of one of these names stands alone there, with nothing behind it.
unfoldable pub reaches : List ℕ → Tree Token → Bool
reaches nodes tip = false
reaches nodes (leaf t) = false
reaches nodes (pair a tip) = reaches nodes a
reaches nodes (pair a b) = false
reaches nodes (node n a) = if among nodes n then true else reaches nodes a

-- ---- the rules that nest

abbrev pub block : Rule
block = call 1

abbrev pub function_expression : Rule
function_expression = call 2

abbrev pub function_declaration : Rule
function_declaration = call 3

abbrev pub body : Rule
body = call 4

abbrev pub group : Rule
group = call 5

abbrev pub index : Rule
index = call 6

abbrev pub computed_key : Rule
computed_key = call 7

abbrev pub array : Rule
array = call 8

abbrev pub object : Rule
object = call 9

abbrev pub arguments : Rule
arguments = call 10

abbrev pub template : Rule
template = call 11

abbrev pub prefixed : Rule
prefixed = call 12

abbrev pub new_head : Rule
new_head = call 13

-- The arguments of `new` stand in its level and in that of their brackets.
abbrev pub new_arguments : Rule
new_arguments = call 14

-- a right side, where the operator `in` may stand or may not
abbrev pub right : Bool → Rule
right true = call 15
right false = call 16

abbrev pub arrow_tail : Bool → Rule
arrow_tail true = call 17
arrow_tail false = call 18

abbrev pub parameters : Rule
parameters = call 19

abbrev pub pattern : Rule
pattern = call 20

abbrev pub method : Rule
method = call 21

abbrev pub getter : Rule
getter = call 22

abbrev pub setter : Rule
setter = call 23

abbrev pub no_parameters : Rule
no_parameters = call 24

abbrev pub one_parameter : Rule
one_parameter = call 25

abbrev pub for_head : Rule
for_head = call 26

-- ---- bindings

-- Bind
abbrev pub bind : Rule
bind = either identifier pattern

-- ["=" Assign]
abbrev pub default : Rule
default = optional (both (punctuator (codes "=")) (right true))

-- Key [":" Bind] ["=" Assign], where a Key without ":" is a name
abbrev pub pattern_member : Rule
pattern_member = both (either (both identifier (optional (both (punctuator (codes ":")) bind))) (both (one (text ∷ reserved)) (both (punctuator (codes ":")) bind))) default

unfoldable pub pattern_rule : Rule
pattern_rule = either (both (punctuator (codes "{")) (both (listed pattern_member) (punctuator (codes "}"))))
    (both (punctuator (codes "[")) (both (listed (both bind default)) (punctuator (codes "]"))))

abbrev pub parameter : Rule
parameter = both bind default

abbrev pub rest_parameter : Rule
rest_parameter = named 58 (both (punctuator (codes "...")) identifier)

abbrev pub is_parameter : Tree Token → Bool
is_parameter (node n a) = false
is_parameter _ = true

abbrev pub has_parameter : Tree Token → Bool
has_parameter (pair comma tip) = false
has_parameter (pair comma (node n a)) = false
has_parameter _ = true

-- Params: one comma may end the list, but not behind "..."
abbrev pub parameter_list : Rule
parameter_list = optional (on is_parameter (either rest_parameter parameter)
    (many has_parameter (both (punctuator (codes ",")) (optional (either rest_parameter parameter)))) empty)

-- Fun
abbrev pub function_rest : Rule
function_rest = both parameters block

-- ---- expressions

-- AnyName
abbrev pub any_name : Rule
any_name = one (names ++ reserved)

abbrev pub member_suffix : Rule
member_suffix = either (both (punctuator (codes ".")) any_name) index

abbrev pub suffix : Rule
suffix = either arguments member_suffix

-- Primary
unfoldable pub primary_rule : Rule
primary_rule = named 27 (either group (either function_expression (either object (either array (either template
    (one (names ++ word (codes "this") ∷ word (codes "null") ∷ word (codes "true") ∷ word (codes "false") ∷ number ∷ text ∷ whole_template ∷ [])))))))

abbrev pub primary : Rule
primary = line 27 primary_rule

-- Member: the arguments belong to the innermost `new` that has none.
unfoldable pub member_rule : Rule
member_rule = either (both new_head (prefer (kinds (mark (codes "(") ∷ [])) (both new_arguments (any member_suffix)))) (both primary (any member_suffix))

-- Left
unfoldable pub left_rule : Rule
left_rule = named 29 (either (both new_head (prefer (kinds (mark (codes "(") ∷ [])) (both new_arguments (any suffix)))) (both primary (any suffix)))

abbrev pub left : Rule
left = line 29 left_rule

-- Unary, with no line break before a postfix operator
unfoldable pub unary_rule : Rule
unary_rule = named 30 (either prefixed (both left (optional (token (unbroken_kinds (mark (codes "++") ∷ mark (codes "--") ∷ []))))))

abbrev pub unary : Rule
unary = line 30 unary_rule

unfoldable pub mul_rule : Rule
mul_rule = named 31 (operators (mark (codes "*") ∷ mark (codes "/") ∷ mark (codes "%") ∷ []) unary)

abbrev pub mul : Rule
mul = line 31 mul_rule

unfoldable pub add_rule : Rule
add_rule = named 32 (operators (mark (codes "+") ∷ mark (codes "-") ∷ []) mul)

abbrev pub add : Rule
add = line 32 add_rule

unfoldable pub shift_rule : Rule
shift_rule = named 33 (operators (mark (codes "<<") ∷ mark (codes ">>") ∷ mark (codes ">>>") ∷ []) add)

abbrev pub shift : Rule
shift = line 33 shift_rule

-- The lines from here on have two forms: the operator `in` may stand in them, or not.
abbrev pub form : Bool → ℕ → ℕ
form true name = name
form false name = name + 11

abbrev pub relational : Bool → List ℕ
relational true = mark (codes "<") ∷ mark (codes ">") ∷ mark (codes "<=") ∷ mark (codes ">=") ∷ word (codes "instanceof") ∷ word (codes "in") ∷ []
relational false = mark (codes "<") ∷ mark (codes ">") ∷ mark (codes "<=") ∷ mark (codes ">=") ∷ word (codes "instanceof") ∷ []

unfoldable pub rel_rule : Bool → Rule
rel_rule allow_in = named (form allow_in 34) (operators (relational allow_in) shift)

abbrev pub rel : Bool → Rule
rel allow_in = line (form allow_in 34) (rel_rule allow_in)

unfoldable pub equal_rule : Bool → Rule
equal_rule allow_in = named (form allow_in 35) (operators (mark (codes "===") ∷ mark (codes "!==") ∷ []) (rel allow_in))

abbrev pub equal : Bool → Rule
equal allow_in = line (form allow_in 35) (equal_rule allow_in)

unfoldable pub bit_and_rule : Bool → Rule
bit_and_rule allow_in = named (form allow_in 36) (operators (mark (codes "&") ∷ []) (equal allow_in))

abbrev pub bit_and : Bool → Rule
bit_and allow_in = line (form allow_in 36) (bit_and_rule allow_in)

unfoldable pub bit_xor_rule : Bool → Rule
bit_xor_rule allow_in = named (form allow_in 37) (operators (mark (codes "^") ∷ []) (bit_and allow_in))

abbrev pub bit_xor : Bool → Rule
bit_xor allow_in = line (form allow_in 37) (bit_xor_rule allow_in)

unfoldable pub bit_or_rule : Bool → Rule
bit_or_rule allow_in = named (form allow_in 38) (operators (mark (codes "|") ∷ []) (bit_xor allow_in))

abbrev pub bit_or : Bool → Rule
bit_or allow_in = line (form allow_in 38) (bit_or_rule allow_in)

unfoldable pub and_rule : Bool → Rule
and_rule allow_in = named (form allow_in 39) (operators (mark (codes "&&") ∷ []) (bit_or allow_in))

abbrev pub and : Bool → Rule
and allow_in = line (form allow_in 39) (and_rule allow_in)

unfoldable pub or_rule : Bool → Rule
or_rule allow_in = named (form allow_in 40) (operators (mark (codes "||") ∷ []) (and allow_in))

abbrev pub or : Bool → Rule
or allow_in = line (form allow_in 40) (or_rule allow_in)

-- Short: behind a BitOr alone may come "??"
unfoldable pub short_rule : Bool → Rule
short_rule allow_in = named (form allow_in 41) (on (reaches (38 ∷ 49 ∷ [])) (or allow_in) (any (both (punctuator (codes "??")) (bit_or allow_in))) empty)

abbrev pub short : Bool → Rule
short allow_in = line (form allow_in 41) (short_rule allow_in)

-- "?" Assign ":" Assign
abbrev pub branches : Bool → Rule
branches allow_in = both (punctuator (codes "?")) (both (right allow_in) (both (punctuator (codes ":")) (right allow_in)))

abbrev pub assign_operators : List ℕ
assign_operators = mark (codes "=") ∷ mark (codes "+=") ∷ mark (codes "-=") ∷ mark (codes "*=") ∷ mark (codes "/=") ∷ mark (codes "%=") ∷ []

-- Cond | Left Op Assign: an operator may come behind a Left alone
unfoldable pub cond_rule : Bool → Rule
cond_rule allow_in = named (form allow_in 42) (on (reaches (29 ∷ [])) (short allow_in) (optional (either (both (one assign_operators) (right allow_in)) (branches allow_in))) (optional (branches allow_in)))

abbrev pub cond : Bool → Rule
cond allow_in = line (form allow_in 42) (cond_rule allow_in)

abbrev pub arrow_kinds : List ℕ
arrow_kinds = unbroken_kinds (mark (codes "=>") ∷ [])

-- Assign: an arrow is what has "=>" behind a name or parameters, with no line break between.
unfoldable pub assign_rule : Bool → Rule
assign_rule allow_in = named (form allow_in 43) (fork arrow_kinds (cond allow_in) (both (either parameters identifier) (arrow_tail allow_in)))

abbrev pub assign : Bool → Rule
assign allow_in = line (form allow_in 43) (assign_rule allow_in)

-- Expr
unfoldable pub expr_rule : Bool → Rule
expr_rule allow_in = named (form allow_in 44) (commas (assign allow_in))

abbrev pub expr : Bool → Rule
expr allow_in = line (form allow_in 44) (expr_rule allow_in)

-- It begins with none of these.
abbrev pub but_not : List ℕ → Rule → Rule
but_not classes x = starting (λ kind. not (among (kinds classes) kind)) x

-- No line break stands before it.
abbrev pub unbroken : Rule → Rule
unbroken x = starting (λ kind. kind % 2 == 0) x

unfoldable pub arrow_rule : Bool → Rule
arrow_rule allow_in = both (token arrow_kinds) (either block (but_not (mark (codes "{") ∷ []) (assign allow_in)))

abbrev pub prefix_operators : List ℕ
prefix_operators = mark (codes "!") ∷ mark (codes "~") ∷ mark (codes "+") ∷ mark (codes "-") ∷ word (codes "typeof") ∷ word (codes "void") ∷ word (codes "delete") ∷ mark (codes "++") ∷ mark (codes "--") ∷ []

unfoldable pub prefixed_rule : Rule
prefixed_rule = both (one prefix_operators) unary

unfoldable pub new_rule : Rule
new_rule = both (keyword (codes "new")) (line 28 member_rule)

unfoldable pub group_rule : Rule
group_rule = both (punctuator (codes "(")) (both (expr true) (punctuator (codes ")")))

unfoldable pub index_rule : Rule
index_rule = both (punctuator (codes "[")) (both (expr true) (punctuator (codes "]")))

unfoldable pub computed_rule : Rule
computed_rule = both (punctuator (codes "[")) (both (assign true) (punctuator (codes "]")))

-- ["..."] Assign
abbrev pub element : Rule
element = either (both (punctuator (codes "...")) (assign true)) (assign true)

unfoldable pub array_rule : Rule
array_rule = both (punctuator (codes "[")) (both (listed element) (punctuator (codes "]")))

unfoldable pub arguments_rule : Rule
arguments_rule = both (punctuator (codes "(")) (both (listed element) (punctuator (codes ")")))

unfoldable pub template_rule : Rule
template_rule = both (one (template_head ∷ [])) (both (expr true) (both (any (both (one (template_middle ∷ [])) (expr true))) (one (template_tail ∷ []))))

-- Key
abbrev pub key : Rule
key = either computed_key (one (text ∷ number ∷ names ++ reserved))

-- ":" Assign | Fun
abbrev pub behind_key : Rule
behind_key = either (both (punctuator (codes ":")) (assign true)) method

-- Prop: `get` and `set` before a key begin a getter and a setter; a name may stand alone
abbrev pub property : Rule
property = either (both (one (name (codes "get") ∷ [])) (either (both key getter) (optional behind_key)))
    (either (both (one (name (codes "set") ∷ [])) (either (both key setter) (optional behind_key)))
    (either (both (either computed_key (one (text ∷ number ∷ reserved))) behind_key) (both (one (name (codes "of") ∷ 4 ∷ [])) (optional behind_key))))

unfoldable pub object_rule : Rule
object_rule = both (punctuator (codes "{")) (both (listed property) (punctuator (codes "}")))

-- ---- functions

unfoldable pub function_rule : Rule
function_rule = both (keyword (codes "function")) (both (optional identifier) function_rest)

unfoldable pub declared_rule : Rule
declared_rule = both (keyword (codes "function")) (both identifier function_rest)

unfoldable pub parameters_rule : Rule
parameters_rule = both (punctuator (codes "(")) (both parameter_list (punctuator (codes ")")))

unfoldable pub no_parameters_rule : Rule
no_parameters_rule = both (punctuator (codes "(")) (punctuator (codes ")"))

unfoldable pub one_parameter_rule : Rule
one_parameter_rule = both (punctuator (codes "(")) (both bind (punctuator (codes ")")))

-- ---- declarations

abbrev pub initial : Bool → Rule
initial allow_in = both (punctuator (codes "=")) (assign allow_in)

-- A pattern has a value.
abbrev pub let_binding : Bool → Rule
let_binding allow_in = either (both identifier (optional (initial allow_in))) (both pattern (initial allow_in))

abbrev pub const_binding : Bool → Rule
const_binding allow_in = both bind (initial allow_in)

-- Decl
abbrev pub declaration : Rule
declaration = either (both (keyword (codes "let")) (commas (let_binding true))) (both (keyword (codes "const")) (commas (const_binding true)))

-- ---- statements

-- "(" Expr ")" Stmt
abbrev pub controlled : Rule
controlled = both group body

-- An `else` belongs to the nearest `if`.
abbrev pub if_statement : Rule
if_statement = both (keyword (codes "if")) (both controlled (prefer (kinds (word (codes "else") ∷ [])) (both (keyword (codes "else")) body)))

abbrev pub while_statement : Rule
while_statement = both (keyword (codes "while")) controlled

abbrev pub do_statement : Rule
do_statement = both (keyword (codes "do")) (both body (both (keyword (codes "while")) (both group (punctuator (codes ";")))))

abbrev pub for_statement : Rule
for_statement = both (keyword (codes "for")) (both for_head body)

abbrev pub return_statement : Rule
return_statement = both (keyword (codes "return")) (both (optional (unbroken (expr true))) (punctuator (codes ";")))

abbrev pub jump : Rule
jump = both (one (word (codes "break") ∷ word (codes "continue") ∷ [])) (punctuator (codes ";"))

abbrev pub throw_statement : Rule
throw_statement = both (keyword (codes "throw")) (both (unbroken (expr true)) (punctuator (codes ";")))

abbrev pub finally : Rule
finally = both (keyword (codes "finally")) block

-- It has a catch or finally.
abbrev pub try_statement : Rule
try_statement = both (keyword (codes "try")) (both block (either (both (keyword (codes "catch")) (both (optional one_parameter) (both block (optional finally)))) finally))

-- An expression that is a statement begins with neither "{" nor `function`.
abbrev pub expression_statement : Rule
expression_statement = both (but_not (mark (codes "{") ∷ word (codes "function") ∷ []) (expr true)) (punctuator (codes ";"))

-- Stmt
unfoldable pub stmt_rule : Rule
stmt_rule = either block (either (punctuator (codes ";")) (either if_statement (either while_statement (either do_statement (either for_statement
    (either return_statement (either jump (either throw_statement (either try_statement expression_statement)))))))))

abbrev pub stmt : Rule
stmt = line 57 stmt_rule

-- Item
unfoldable pub item_rule : Rule
item_rule = either (both declaration (punctuator (codes ";"))) (either function_declaration stmt)

abbrev pub item : Rule
item = line 56 item_rule

unfoldable pub block_rule : Rule
block_rule = both (punctuator (codes "{")) (both (any item) (punctuator (codes "}")))

-- ";" [Expr] ";" [Expr]
abbrev pub loop_rest : Rule
loop_rest = both (punctuator (codes ";")) (both (optional (expr true)) (both (punctuator (codes ";")) (optional (expr true))))

-- "of" Assign
abbrev pub of_list : Rule
of_list = both an_of (assign true)

-- the rest of a Decl in which `in` may not stand, and of the head
abbrev pub loop_behind : Rule → Rule
loop_behind binding = both (any (both (punctuator (codes ",")) binding)) loop_rest

abbrev pub let_head : Rule
let_head = both (keyword (codes "let")) (either (both identifier (either of_list (both (optional (initial false)) (loop_behind (let_binding false)))))
    (both pattern (either of_list (both (initial false) (loop_behind (let_binding false))))))

abbrev pub const_head : Rule
const_head = both (keyword (codes "const")) (both bind (either of_list (both (initial false) (loop_behind (const_binding false)))))

unfoldable pub for_rule : Rule
for_rule = both (punctuator (codes "(")) (both (either let_head (either const_head (either (both (expr false) loop_rest) loop_rest))) (punctuator (codes ")")))

-- Script
unfoldable pub script_rule : Rule
script_rule = both (any item) an_end

-- the rules by their names
unfoldable pub rules : List Rule
rules = script_rule
    ∷ block_rule
    ∷ function_rule
    ∷ declared_rule
    ∷ stmt
    ∷ group_rule
    ∷ index_rule
    ∷ computed_rule
    ∷ array_rule
    ∷ object_rule
    ∷ arguments_rule
    ∷ template_rule
    ∷ prefixed_rule
    ∷ new_rule
    ∷ arguments
    ∷ assign true
    ∷ assign false
    ∷ arrow_rule true
    ∷ arrow_rule false
    ∷ parameters_rule
    ∷ pattern_rule
    ∷ function_rest
    ∷ both no_parameters block
    ∷ both one_parameter block
    ∷ no_parameters_rule
    ∷ one_parameter_rule
    ∷ for_rule
    ∷ primary_rule
    ∷ member_rule
    ∷ left_rule
    ∷ unary_rule
    ∷ mul_rule
    ∷ add_rule
    ∷ shift_rule
    ∷ rel_rule true
    ∷ equal_rule true
    ∷ bit_and_rule true
    ∷ bit_xor_rule true
    ∷ bit_or_rule true
    ∷ and_rule true
    ∷ or_rule true
    ∷ short_rule true
    ∷ cond_rule true
    ∷ assign_rule true
    ∷ expr_rule true
    ∷ rel_rule false
    ∷ equal_rule false
    ∷ bit_and_rule false
    ∷ bit_xor_rule false
    ∷ bit_or_rule false
    ∷ and_rule false
    ∷ or_rule false
    ∷ short_rule false
    ∷ cond_rule false
    ∷ assign_rule false
    ∷ expr_rule false
    ∷ item_rule
    ∷ stmt_rule
    ∷ []

-- ---- what each rule may begin with

-- a Primary but for functions
abbrev pub begin_plain : List ℕ
begin_plain = names ++ word (codes "false") ∷ word (codes "null") ∷ word (codes "this") ∷ word (codes "true") ∷ number ∷ text ∷ whole_template ∷ template_head ∷ mark (codes "{") ∷ mark (codes "(") ∷ mark (codes "[") ∷ []

abbrev pub begin_primary : List ℕ
begin_primary = word (codes "function") ∷ begin_plain

abbrev pub begin_left : List ℕ
begin_left = word (codes "new") ∷ begin_primary

abbrev pub begin_assign : List ℕ
begin_assign = prefix_operators ++ begin_left

abbrev pub begin_stmt : List ℕ
begin_stmt = word (codes "break") ∷ word (codes "continue") ∷ word (codes "do") ∷ word (codes "for") ∷ word (codes "if") ∷ word (codes "return") ∷ word (codes "throw") ∷ word (codes "try") ∷ word (codes "while") ∷ mark (codes ";") ∷ prefix_operators ++ word (codes "new") ∷ begin_plain

abbrev pub begin_item : List ℕ
begin_item = word (codes "const") ∷ word (codes "function") ∷ word (codes "let") ∷ begin_stmt

unfoldable pub heads : List (List ℕ)
heads = kinds (end ∷ begin_item)
    ∷ kinds (mark (codes "{") ∷ [])
    ∷ kinds (word (codes "function") ∷ [])
    ∷ kinds (word (codes "function") ∷ [])
    ∷ kinds begin_stmt
    ∷ kinds (mark (codes "(") ∷ [])
    ∷ kinds (mark (codes "[") ∷ [])
    ∷ kinds (mark (codes "[") ∷ [])
    ∷ kinds (mark (codes "[") ∷ [])
    ∷ kinds (mark (codes "{") ∷ [])
    ∷ kinds (mark (codes "(") ∷ [])
    ∷ kinds (template_head ∷ [])
    ∷ kinds prefix_operators
    ∷ kinds (word (codes "new") ∷ [])
    ∷ kinds (mark (codes "(") ∷ [])
    ∷ kinds begin_assign
    ∷ kinds begin_assign
    ∷ arrow_kinds
    ∷ arrow_kinds
    ∷ kinds (mark (codes "(") ∷ [])
    ∷ kinds (mark (codes "{") ∷ mark (codes "[") ∷ [])
    ∷ kinds (mark (codes "(") ∷ [])
    ∷ kinds (mark (codes "(") ∷ [])
    ∷ kinds (mark (codes "(") ∷ [])
    ∷ kinds (mark (codes "(") ∷ [])
    ∷ kinds (mark (codes "(") ∷ [])
    ∷ kinds (mark (codes "(") ∷ [])
    ∷ kinds begin_primary
    ∷ kinds begin_left
    ∷ kinds begin_left
    ∷ kinds begin_assign
    ∷ kinds begin_assign
    ∷ kinds begin_assign
    ∷ kinds begin_assign
    ∷ kinds begin_assign
    ∷ kinds begin_assign
    ∷ kinds begin_assign
    ∷ kinds begin_assign
    ∷ kinds begin_assign
    ∷ kinds begin_assign
    ∷ kinds begin_assign
    ∷ kinds begin_assign
    ∷ kinds begin_assign
    ∷ kinds begin_assign
    ∷ kinds begin_assign
    ∷ kinds begin_assign
    ∷ kinds begin_assign
    ∷ kinds begin_assign
    ∷ kinds begin_assign
    ∷ kinds begin_assign
    ∷ kinds begin_assign
    ∷ kinds begin_assign
    ∷ kinds begin_assign
    ∷ kinds begin_assign
    ∷ kinds begin_assign
    ∷ kinds begin_assign
    ∷ kinds begin_item
    ∷ kinds begin_stmt
    ∷ []

-- the language of scripts
unfoldable pub script_language : Language Token
script_language = record { kind = kind_of; rules = entry (token []) rules; heads = entry [] heads }

-- the rule of a script, and how deep things may nest
abbrev pub script : ℕ
script = 0

abbrev pub nesting : ℕ
nesting = 200
