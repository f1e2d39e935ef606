-- Written by the reference (`cargo run --release -- write` in reference/) and not to be edited:
-- three maps run to their end on plain cloth, side 4, side 8 and a flat one of side 4; then three on ribbed
-- cloth, side 2, side 4 and side 8.
use Rattle.std.specs.Prelude.{List, [], ◌∷◌, ℕ, ℤ, pos, negsuc}

-- the map of side 4, and what Load and Advance leave: the order list, the serial sheet, the pyramid
-- row after row and by quarters; then the sums of Levels
unfoldable pub greys4 : List ℕ
greys4 =
    61 ∷ 233 ∷ 156 ∷ 237 ∷ 12 ∷ 219
    ∷ 92 ∷ 13 ∷ 17 ∷ 240 ∷ 240 ∷ 136
    ∷ 115 ∷ 140 ∷ 154 ∷ 199
    ∷ []

unfoldable pub order4 : List ℕ
order4 =
    10 ∷ 1 ∷ 9 ∷ 3 ∷ 15 ∷ 5
    ∷ 13 ∷ 2 ∷ 11 ∷ 0 ∷ 0 ∷ 0
    ∷ 0 ∷ 0 ∷ 0 ∷ 0
    ∷ []

unfoldable pub serials4 : List ℕ
serials4 =
    0 ∷ 2 ∷ 8 ∷ 4 ∷ 0 ∷ 6
    ∷ 0 ∷ 0 ∷ 0 ∷ 3 ∷ 1 ∷ 9
    ∷ 0 ∷ 7 ∷ 0 ∷ 5
    ∷ []

unfoldable pub pyramid4 : List ℤ
pyramid4 =
    negsuc 7935 ∷ pos 244 ∷ negsuc 12212 ∷ pos 10682 ∷ negsuc 6648 ∷ pos 13234
    ∷ negsuc 9339 ∷ pos 0 ∷ negsuc 7391 ∷ pos 46 ∷ negsuc 3695 ∷ pos 6953
    ∷ negsuc 11773 ∷ negsuc 1180 ∷ negsuc 9575 ∷ negsuc 17706 ∷ pos 0 ∷ pos 21439
    ∷ pos 0 ∷ pos 20300 ∷ negsuc 9241
    ∷ []

unfoldable pub quarters4 : List ℤ
quarters4 =
    negsuc 7935 ∷ pos 244 ∷ negsuc 12212 ∷ pos 10682 ∷ negsuc 6648 ∷ pos 13234
    ∷ negsuc 9339 ∷ pos 46 ∷ negsuc 3695 ∷ pos 0 ∷ negsuc 7391 ∷ pos 6953
    ∷ negsuc 11773 ∷ negsuc 1180 ∷ negsuc 9575 ∷ pos 21439 ∷ pos 0 ∷ negsuc 17706
    ∷ pos 0 ∷ pos 20300 ∷ negsuc 9241
    ∷ []

unfoldable pub levels4 : List ℕ
levels4 =
    961 ∷ 1669 ∷ 92605 ∷ 0 ∷ 0 ∷ 0
    ∷ 0 ∷ 0 ∷ 0
    ∷ []

-- the map of side 8, likewise
unfoldable pub greys8 : List ℕ
greys8 =
    30 ∷ 0 ∷ 38 ∷ 123 ∷ 91 ∷ 77
    ∷ 101 ∷ 124 ∷ 73 ∷ 5 ∷ 54 ∷ 27
    ∷ 54 ∷ 63 ∷ 106 ∷ 31 ∷ 119 ∷ 55
    ∷ 98 ∷ 94 ∷ 6 ∷ 5 ∷ 97 ∷ 105
    ∷ 121 ∷ 102 ∷ 99 ∷ 95 ∷ 119 ∷ 9
    ∷ 5 ∷ 33 ∷ 9 ∷ 29 ∷ 21 ∷ 0
    ∷ 59 ∷ 95 ∷ 21 ∷ 94 ∷ 10 ∷ 25
    ∷ 9 ∷ 34 ∷ 116 ∷ 20 ∷ 34 ∷ 47
    ∷ 86 ∷ 44 ∷ 86 ∷ 4 ∷ 38 ∷ 89
    ∷ 48 ∷ 115 ∷ 17 ∷ 127 ∷ 61 ∷ 82
    ∷ 43 ∷ 40 ∷ 18 ∷ 89
    ∷ []

unfoldable pub order8 : List ℕ
order8 =
    24 ∷ 7 ∷ 44 ∷ 26 ∷ 4 ∷ 55
    ∷ 19 ∷ 23 ∷ 53 ∷ 57 ∷ 16 ∷ 28
    ∷ 59 ∷ 3 ∷ 39 ∷ 0 ∷ 0 ∷ 0
    ∷ 0 ∷ 0 ∷ 0 ∷ 0 ∷ 0 ∷ 0
    ∷ 0 ∷ 0 ∷ 0 ∷ 0 ∷ 0 ∷ 0
    ∷ 0 ∷ 0 ∷ 0 ∷ 0 ∷ 0 ∷ 0
    ∷ 0 ∷ 0 ∷ 0 ∷ 0 ∷ 0 ∷ 0
    ∷ 0 ∷ 0 ∷ 0 ∷ 0 ∷ 0 ∷ 0
    ∷ 0 ∷ 0 ∷ 0 ∷ 0 ∷ 0 ∷ 0
    ∷ 0 ∷ 0 ∷ 0 ∷ 0 ∷ 0 ∷ 0
    ∷ 0 ∷ 0 ∷ 0 ∷ 0
    ∷ []

unfoldable pub serials8 : List ℕ
serials8 =
    0 ∷ 0 ∷ 0 ∷ 14 ∷ 5 ∷ 0
    ∷ 0 ∷ 2 ∷ 0 ∷ 0 ∷ 0 ∷ 0
    ∷ 0 ∷ 0 ∷ 0 ∷ 0 ∷ 11 ∷ 0
    ∷ 0 ∷ 7 ∷ 0 ∷ 0 ∷ 0 ∷ 8
    ∷ 1 ∷ 0 ∷ 4 ∷ 0 ∷ 12 ∷ 0
    ∷ 0 ∷ 0 ∷ 0 ∷ 0 ∷ 0 ∷ 0
    ∷ 0 ∷ 0 ∷ 0 ∷ 15 ∷ 0 ∷ 0
    ∷ 0 ∷ 0 ∷ 3 ∷ 0 ∷ 0 ∷ 0
    ∷ 0 ∷ 0 ∷ 0 ∷ 0 ∷ 0 ∷ 9
    ∷ 0 ∷ 6 ∷ 0 ∷ 10 ∷ 0 ∷ 13
    ∷ 0 ∷ 0 ∷ 0 ∷ 0
    ∷ []

unfoldable pub pyramid8 : List ℤ
pyramid8 =
    negsuc 14335 ∷ negsuc 4094 ∷ negsuc 7157 ∷ pos 9664 ∷ negsuc 12746 ∷ pos 11376
    ∷ negsuc 13599 ∷ pos 3104 ∷ pos 12992 ∷ negsuc 9775 ∷ pos 7905 ∷ negsuc 18357
    ∷ negsuc 4895 ∷ pos 2496 ∷ negsuc 5705 ∷ pos 8720 ∷ negsuc 16875 ∷ pos 17152
    ∷ negsuc 4277 ∷ negsuc 10505 ∷ pos 5915 ∷ pos 7680 ∷ pos 0 ∷ negsuc 1343
    ∷ pos 0 ∷ negsuc 11071 ∷ pos 9216 ∷ pos 12442 ∷ pos 0 ∷ pos 7840
    ∷ negsuc 4143 ∷ pos 4576 ∷ negsuc 16831 ∷ negsuc 5919 ∷ pos 10880 ∷ pos 15629
    ∷ negsuc 15078 ∷ pos 0 ∷ negsuc 4383 ∷ pos 11008 ∷ negsuc 3209 ∷ negsuc 12309
    ∷ negsuc 1930 ∷ pos 15232 ∷ pos 0 ∷ negsuc 10847 ∷ pos 5456 ∷ negsuc 3711
    ∷ pos 3819 ∷ pos 0 ∷ negsuc 4116 ∷ negsuc 8671 ∷ negsuc 11455 ∷ negsuc 6271
    ∷ negsuc 191 ∷ negsuc 1279 ∷ negsuc 9503 ∷ pos 2751 ∷ pos 18145 ∷ negsuc 4927
    ∷ pos 0 ∷ pos 2560 ∷ pos 6400 ∷ pos 2304 ∷ pos 2774 ∷ negsuc 3787
    ∷ negsuc 8387 ∷ negsuc 4715 ∷ negsuc 7231 ∷ pos 17920 ∷ pos 3072 ∷ pos 12384
    ∷ negsuc 13013 ∷ negsuc 9315 ∷ pos 0 ∷ negsuc 4248 ∷ pos 0 ∷ negsuc 3839
    ∷ pos 0 ∷ negsuc 3647 ∷ pos 0 ∷ negsuc 3852 ∷ pos 2663 ∷ negsuc 3659
    ∷ pos 13824
    ∷ []

unfoldable pub quarters8 : List ℤ
quarters8 =
    negsuc 14335 ∷ negsuc 4094 ∷ negsuc 7157 ∷ pos 9664 ∷ negsuc 12746 ∷ pos 11376
    ∷ negsuc 13599 ∷ negsuc 9775 ∷ pos 7905 ∷ pos 3104 ∷ pos 12992 ∷ negsuc 18357
    ∷ negsuc 4895 ∷ pos 2496 ∷ negsuc 5705 ∷ pos 17152 ∷ negsuc 4277 ∷ pos 8720
    ∷ negsuc 16875 ∷ negsuc 10505 ∷ pos 5915 ∷ pos 7680 ∷ pos 0 ∷ pos 7840
    ∷ negsuc 4143 ∷ negsuc 1343 ∷ pos 0 ∷ pos 4576 ∷ negsuc 16831 ∷ pos 0
    ∷ negsuc 4383 ∷ negsuc 10847 ∷ pos 5456 ∷ pos 11008 ∷ negsuc 3209 ∷ negsuc 3711
    ∷ pos 3819 ∷ negsuc 11071 ∷ pos 9216 ∷ negsuc 5919 ∷ pos 10880 ∷ pos 12442
    ∷ pos 0 ∷ pos 15629 ∷ negsuc 15078 ∷ negsuc 12309 ∷ negsuc 1930 ∷ pos 0
    ∷ negsuc 4116 ∷ pos 15232 ∷ pos 0 ∷ negsuc 8671 ∷ negsuc 11455 ∷ negsuc 6271
    ∷ negsuc 191 ∷ pos 2560 ∷ pos 6400 ∷ negsuc 1279 ∷ negsuc 9503 ∷ pos 2304
    ∷ pos 2774 ∷ pos 17920 ∷ pos 3072 ∷ negsuc 3839 ∷ pos 0 ∷ pos 12384
    ∷ negsuc 13013 ∷ negsuc 3647 ∷ pos 0 ∷ pos 2751 ∷ pos 18145 ∷ negsuc 3787
    ∷ negsuc 8387 ∷ negsuc 4927 ∷ pos 0 ∷ negsuc 4715 ∷ negsuc 7231 ∷ negsuc 9315
    ∷ pos 0 ∷ negsuc 3852 ∷ pos 2663 ∷ negsuc 4248 ∷ pos 0 ∷ negsuc 3659
    ∷ pos 13824
    ∷ []

unfoldable pub levels8 : List ℕ
levels8 =
    3136 ∷ 41072 ∷ 83234 ∷ 473408 ∷ 0 ∷ 0
    ∷ 0 ∷ 0 ∷ 0
    ∷ []

-- the flat map of side 4, where quarters and cells are equal, likewise
unfoldable pub greys_flat4 : List ℕ
greys_flat4 =
    240 ∷ 240 ∷ 240 ∷ 240 ∷ 240 ∷ 240
    ∷ 240 ∷ 240 ∷ 240 ∷ 240 ∷ 240 ∷ 240
    ∷ 240 ∷ 240 ∷ 240 ∷ 240
    ∷ []

unfoldable pub order_flat4 : List ℕ
order_flat4 =
    0 ∷ 15 ∷ 2 ∷ 13 ∷ 7 ∷ 8
    ∷ 5 ∷ 10 ∷ 3 ∷ 12 ∷ 14 ∷ 1
    ∷ 11 ∷ 4 ∷ 9 ∷ 0
    ∷ []

unfoldable pub serials_flat4 : List ℕ
serials_flat4 =
    1 ∷ 12 ∷ 3 ∷ 9 ∷ 14 ∷ 7
    ∷ 0 ∷ 5 ∷ 6 ∷ 15 ∷ 8 ∷ 13
    ∷ 10 ∷ 4 ∷ 11 ∷ 2
    ∷ []

unfoldable pub pyramid_flat4 : List ℤ
pyramid_flat4 =
    pos 3840 ∷ negsuc 12544 ∷ pos 43262 ∷ negsuc 14704 ∷ negsuc 12171 ∷ negsuc 4363
    ∷ negsuc 1036 ∷ negsuc 5178 ∷ pos 0 ∷ negsuc 912 ∷ negsuc 6230 ∷ pos 53399
    ∷ negsuc 4957 ∷ negsuc 6724 ∷ pos 0 ∷ negsuc 5763 ∷ pos 0 ∷ negsuc 913
    ∷ negsuc 7065 ∷ negsuc 1962 ∷ negsuc 4444
    ∷ []

unfoldable pub quarters_flat4 : List ℤ
quarters_flat4 =
    pos 3840 ∷ negsuc 12544 ∷ pos 43262 ∷ negsuc 14704 ∷ negsuc 12171 ∷ negsuc 4363
    ∷ negsuc 1036 ∷ negsuc 912 ∷ negsuc 6230 ∷ negsuc 5178 ∷ pos 0 ∷ pos 53399
    ∷ negsuc 4957 ∷ negsuc 6724 ∷ pos 0 ∷ negsuc 913 ∷ negsuc 7065 ∷ negsuc 5763
    ∷ pos 0 ∷ negsuc 1962 ∷ negsuc 4444
    ∷ []

unfoldable pub levels_flat4 : List ℕ
levels_flat4 =
    225 ∷ 48825 ∷ 60975 ∷ 0 ∷ 0 ∷ 0
    ∷ 0 ∷ 0 ∷ 0
    ∷ []

-- ribbed: the map of side 2 with four greys of 128, and those of side 4 and side 8 above; of each the order
-- list, the serial sheet and the pyramid, likewise
unfoldable pub order_ribbed2 : List ℕ
order_ribbed2 =
    0 ∷ 3 ∷ 0 ∷ 0
    ∷ []

unfoldable pub serials_ribbed2 : List ℕ
serials_ribbed2 =
    1 ∷ 0 ∷ 0 ∷ 2
    ∷ []

unfoldable pub pyramid_ribbed2 : List ℤ
pyramid_ribbed2 =
    pos 512 ∷ pos 0 ∷ pos 256 ∷ pos 256 ∷ pos 0
    ∷ []

unfoldable pub order_ribbed4 : List ℕ
order_ribbed4 =
    10 ∷ 1 ∷ 9 ∷ 3 ∷ 15 ∷ 5
    ∷ 13 ∷ 2 ∷ 11 ∷ 0 ∷ 0 ∷ 0
    ∷ 0 ∷ 0 ∷ 0 ∷ 0
    ∷ []

unfoldable pub serials_ribbed4 : List ℕ
serials_ribbed4 =
    0 ∷ 2 ∷ 8 ∷ 4 ∷ 0 ∷ 6
    ∷ 0 ∷ 0 ∷ 0 ∷ 3 ∷ 1 ∷ 9
    ∷ 0 ∷ 7 ∷ 0 ∷ 5
    ∷ []

unfoldable pub pyramid_ribbed4 : List ℤ
pyramid_ribbed4 =
    negsuc 7935 ∷ pos 823 ∷ negsuc 12004 ∷ pos 9092 ∷ negsuc 5845 ∷ pos 13739
    ∷ negsuc 12913 ∷ pos 0 ∷ negsuc 9841 ∷ negsuc 1 ∷ pos 0 ∷ pos 9677
    ∷ negsuc 11839 ∷ pos 3152 ∷ negsuc 13286 ∷ negsuc 14063 ∷ pos 0 ∷ pos 19227
    ∷ pos 0 ∷ pos 21082 ∷ negsuc 12863
    ∷ []

unfoldable pub quarters_ribbed4 : List ℤ
quarters_ribbed4 =
    negsuc 7935 ∷ pos 823 ∷ negsuc 12004 ∷ pos 9092 ∷ negsuc 5845 ∷ pos 13739
    ∷ negsuc 12913 ∷ negsuc 1 ∷ pos 0 ∷ pos 0 ∷ negsuc 9841 ∷ pos 9677
    ∷ negsuc 11839 ∷ pos 3152 ∷ negsuc 13286 ∷ pos 19227 ∷ pos 0 ∷ negsuc 14063
    ∷ pos 0 ∷ pos 21082 ∷ negsuc 12863
    ∷ []

unfoldable pub order_ribbed8 : List ℕ
order_ribbed8 =
    24 ∷ 7 ∷ 44 ∷ 26 ∷ 4 ∷ 55
    ∷ 19 ∷ 23 ∷ 57 ∷ 53 ∷ 16 ∷ 28
    ∷ 50 ∷ 39 ∷ 3 ∷ 0 ∷ 0 ∷ 0
    ∷ 0 ∷ 0 ∷ 0 ∷ 0 ∷ 0 ∷ 0
    ∷ 0 ∷ 0 ∷ 0 ∷ 0 ∷ 0 ∷ 0
    ∷ 0 ∷ 0 ∷ 0 ∷ 0 ∷ 0 ∷ 0
    ∷ 0 ∷ 0 ∷ 0 ∷ 0 ∷ 0 ∷ 0
    ∷ 0 ∷ 0 ∷ 0 ∷ 0 ∷ 0 ∷ 0
    ∷ 0 ∷ 0 ∷ 0 ∷ 0 ∷ 0 ∷ 0
    ∷ 0 ∷ 0 ∷ 0 ∷ 0 ∷ 0 ∷ 0
    ∷ 0 ∷ 0 ∷ 0 ∷ 0
    ∷ []

unfoldable pub serials_ribbed8 : List ℕ
serials_ribbed8 =
    0 ∷ 0 ∷ 0 ∷ 15 ∷ 5 ∷ 0
    ∷ 0 ∷ 2 ∷ 0 ∷ 0 ∷ 0 ∷ 0
    ∷ 0 ∷ 0 ∷ 0 ∷ 0 ∷ 11 ∷ 0
    ∷ 0 ∷ 7 ∷ 0 ∷ 0 ∷ 0 ∷ 8
    ∷ 1 ∷ 0 ∷ 4 ∷ 0 ∷ 12 ∷ 0
    ∷ 0 ∷ 0 ∷ 0 ∷ 0 ∷ 0 ∷ 0
    ∷ 0 ∷ 0 ∷ 0 ∷ 14 ∷ 0 ∷ 0
    ∷ 0 ∷ 0 ∷ 3 ∷ 0 ∷ 0 ∷ 0
    ∷ 0 ∷ 0 ∷ 13 ∷ 0 ∷ 0 ∷ 10
    ∷ 0 ∷ 6 ∷ 0 ∷ 9 ∷ 0 ∷ 0
    ∷ 0 ∷ 0 ∷ 0 ∷ 0
    ∷ []

unfoldable pub pyramid_ribbed8 : List ℤ
pyramid_ribbed8 =
    negsuc 14335 ∷ negsuc 11397 ∷ negsuc 7032 ∷ pos 3989 ∷ pos 106 ∷ pos 12232
    ∷ negsuc 11696 ∷ pos 5745 ∷ pos 14592 ∷ negsuc 12060 ∷ pos 128 ∷ negsuc 22591
    ∷ negsuc 4777 ∷ pos 7253 ∷ negsuc 13311 ∷ pos 7424 ∷ negsuc 13311 ∷ pos 4971
    ∷ pos 5077 ∷ pos 832 ∷ pos 5162 ∷ pos 7680 ∷ pos 0 ∷ negsuc 6199
    ∷ pos 0 ∷ negsuc 15928 ∷ pos 5717 ∷ pos 9088 ∷ pos 0 ∷ pos 3272
    ∷ pos 1280 ∷ pos 13824 ∷ negsuc 19320 ∷ negsuc 170 ∷ pos 16128 ∷ pos 27136
    ∷ negsuc 21631 ∷ pos 0 ∷ negsuc 1336 ∷ pos 4800 ∷ pos 0 ∷ negsuc 17471
    ∷ pos 1280 ∷ pos 12032 ∷ pos 0 ∷ negsuc 15416 ∷ pos 4693 ∷ pos 0
    ∷ negsuc 4671 ∷ pos 0 ∷ negsuc 6399 ∷ pos 1280 ∷ negsuc 18089 ∷ negsuc 9130
    ∷ pos 7424 ∷ negsuc 4607 ∷ pos 0 ∷ negsuc 2495 ∷ pos 24320 ∷ negsuc 8362
    ∷ pos 0 ∷ pos 2560 ∷ pos 6400 ∷ negsuc 8511 ∷ negsuc 191 ∷ pos 0
    ∷ negsuc 14399 ∷ pos 8704 ∷ negsuc 13652 ∷ pos 22016 ∷ negsuc 10473 ∷ pos 0
    ∷ negsuc 9791 ∷ negsuc 9791 ∷ pos 0 ∷ negsuc 10282 ∷ pos 0 ∷ negsuc 6570
    ∷ pos 0 ∷ negsuc 6122 ∷ pos 20992 ∷ pos 11008 ∷ negsuc 383 ∷ pos 4608
    ∷ pos 10837
    ∷ []

unfoldable pub quarters_ribbed8 : List ℤ
quarters_ribbed8 =
    negsuc 14335 ∷ negsuc 11397 ∷ negsuc 7032 ∷ pos 3989 ∷ pos 106 ∷ pos 12232
    ∷ negsuc 11696 ∷ negsuc 12060 ∷ pos 128 ∷ pos 5745 ∷ pos 14592 ∷ negsuc 22591
    ∷ negsuc 4777 ∷ pos 7253 ∷ negsuc 13311 ∷ pos 4971 ∷ pos 5077 ∷ pos 7424
    ∷ negsuc 13311 ∷ pos 832 ∷ pos 5162 ∷ pos 7680 ∷ pos 0 ∷ pos 3272
    ∷ pos 1280 ∷ negsuc 6199 ∷ pos 0 ∷ pos 13824 ∷ negsuc 19320 ∷ pos 0
    ∷ negsuc 1336 ∷ negsuc 15416 ∷ pos 4693 ∷ pos 4800 ∷ pos 0 ∷ pos 0
    ∷ negsuc 4671 ∷ negsuc 15928 ∷ pos 5717 ∷ negsuc 170 ∷ pos 16128 ∷ pos 9088
    ∷ pos 0 ∷ pos 27136 ∷ negsuc 21631 ∷ negsuc 17471 ∷ pos 1280 ∷ pos 0
    ∷ negsuc 6399 ∷ pos 12032 ∷ pos 0 ∷ pos 1280 ∷ negsuc 18089 ∷ negsuc 9130
    ∷ pos 7424 ∷ pos 2560 ∷ pos 6400 ∷ negsuc 4607 ∷ pos 0 ∷ negsuc 8511
    ∷ negsuc 191 ∷ pos 22016 ∷ negsuc 10473 ∷ negsuc 6570 ∷ pos 0 ∷ pos 0
    ∷ negsuc 9791 ∷ negsuc 6122 ∷ pos 20992 ∷ negsuc 2495 ∷ pos 24320 ∷ pos 0
    ∷ negsuc 14399 ∷ negsuc 8362 ∷ pos 0 ∷ pos 8704 ∷ negsuc 13652 ∷ negsuc 9791
    ∷ pos 0 ∷ pos 11008 ∷ negsuc 383 ∷ negsuc 10282 ∷ pos 0 ∷ pos 4608
    ∷ pos 10837
    ∷ []
