-- `execute::execute` meets its contract. Assumes nothing.
use Rattle.operations.proofs.Arms as laws
use Rattle.std.proofs.Common.{true, false, arith}
use Rattle.execute.proofs.execute.Goals as goal

pub returns-else-keep : goal.returns-else-keep
returns-else-keep c = laws.brk_is _ c.in-0.is c.if-keep.false

pub returns-then-keep : goal.returns-then-keep
returns-then-keep c = laws.lit_is false false _ c.in-0.is c.if-keep.true c.lit-wp.ensures

pub returns-in-1 : goal.returns-in-1
returns-in-1 c = laws.pure_arm 1 _ _ tt c.in-1.is c.inc-wp.ensures

pub returns-in-2 : goal.returns-in-2
returns-in-2 c = laws.pure_arm 2 _ _ tt c.in-2.is c.pop-wp.ensures

pub returns-in-3 : goal.returns-in-3
returns-in-3 c = laws.pure_arm 3 _ _ tt c.in-3.is c.nip-wp.ensures

pub returns-in-4 : goal.returns-in-4
returns-in-4 c = laws.pure_arm 4 _ _ tt c.in-4.is c.swp-wp.ensures

pub returns-in-5 : goal.returns-in-5
returns-in-5 c = laws.pure_arm 5 _ _ tt c.in-5.is c.rot-wp.ensures

pub returns-in-6 : goal.returns-in-6
returns-in-6 c = laws.pure_arm 6 _ _ tt c.in-6.is c.dup-wp.ensures

pub returns-in-7 : goal.returns-in-7
returns-in-7 c = laws.pure_arm 7 _ _ tt c.in-7.is c.ovr-wp.ensures

pub returns-in-8 : goal.returns-in-8
returns-in-8 c = laws.pure_arm 8 _ _ tt c.in-8.is c.compare-wp.ensures

pub returns-in-9 : goal.returns-in-9
returns-in-9 c = laws.pure_arm 9 _ _ tt c.in-9.is c.compare-wp-in-9.ensures

pub returns-in-10 : goal.returns-in-10
returns-in-10 c = laws.pure_arm 10 _ _ tt c.in-10.is c.compare-wp-in-10.ensures

pub returns-in-11 : goal.returns-in-11
returns-in-11 c = laws.pure_arm 11 _ _ tt c.in-11.is c.compare-wp-in-11.ensures

pub returns-in-12 : goal.returns-in-12
returns-in-12 c = laws.arm 12 _ _ tt c.in-12.is (laws.jmp_is _ _ _ c.jmp-pc.ensures c.lower-wp.ensures)

pub returns-in-13 : goal.returns-in-13
returns-in-13 c = laws.arm 13 _ _ tt c.in-13.is (laws.jcn_is _ _ _ c.jcn-pc.ensures c.lower-wp-in-13.ensures)

pub returns-in-14 : goal.returns-in-14
returns-in-14 c = laws.arm 14 _ _ tt c.in-14.is (laws.jsr_is _ _ _ c.jmp-target.ensures c.push-rp.ensures c.lower-wp-in-14.ensures)

pub returns-in-15 : goal.returns-in-15
returns-in-15 c = laws.arm 15 _ _ tt c.in-15.is (laws.sth_is _ _ _ c.sth-rp.ensures c.lower-wp-in-15.ensures)

pub returns-in-16 : goal.returns-in-16
returns-in-16 c = laws.pure_arm 16 _ _ tt c.in-16.is c.ldz-wp.ensures

pub returns-in-17 : goal.returns-in-17
returns-in-17 c = laws.store_arm 17 _ _ tt c.in-17.is c.stz.ensures c.lower-wp-in-17.ensures

pub returns-in-18 : goal.returns-in-18
returns-in-18 c = laws.pure_arm 18 _ _ tt c.in-18.is c.ldr-wp.ensures

pub returns-in-19 : goal.returns-in-19
returns-in-19 c = laws.store_arm 19 _ _ tt c.in-19.is c.str.ensures c.lower-wp-in-19.ensures

pub returns-in-20 : goal.returns-in-20
returns-in-20 c = laws.pure_arm 20 _ _ tt c.in-20.is c.lda-wp.ensures

pub returns-in-21 : goal.returns-in-21
returns-in-21 c = laws.store_arm 21 _ _ tt c.in-21.is c.sta.ensures c.lower-wp-in-21.ensures

pub returns-in-22 : goal.returns-in-22
returns-in-22 c = laws.pure_arm 22 _ _ tt c.in-22.is c.dei-wp.ensures

pub returns-in-23 : goal.returns-in-23
returns-in-23 c = laws.deo_arm 23 _ _ tt c.in-23.is (laws.deo_is _ _ _ c.deo.ensures c.lower-wp-in-23.ensures) c.port_of.ensures

pub returns-in-24 : goal.returns-in-24
returns-in-24 c = laws.pure_arm 24 _ _ tt c.in-24.is c.compute-wp.ensures

pub returns-in-25 : goal.returns-in-25
returns-in-25 c = laws.pure_arm 25 _ _ tt c.in-25.is c.compute-wp-in-25.ensures

pub returns-in-26 : goal.returns-in-26
returns-in-26 c = laws.pure_arm 26 _ _ tt c.in-26.is c.compute-wp-in-26.ensures

pub returns-in-27 : goal.returns-in-27
returns-in-27 c = laws.pure_arm 27 _ _ tt c.in-27.is c.compute-wp-in-27.ensures

pub returns-in-28 : goal.returns-in-28
returns-in-28 c = laws.pure_arm 28 _ _ tt c.in-28.is c.compute-wp-in-28.ensures

pub returns-in-29 : goal.returns-in-29
returns-in-29 c = laws.pure_arm 29 _ _ tt c.in-29.is c.compute-wp-in-29.ensures

pub returns-in-30 : goal.returns-in-30
returns-in-30 c = laws.pure_arm 30 _ _ tt c.in-30.is c.compute-wp-in-30.ensures

pub returns-in-31 : goal.returns-in-31
returns-in-31 c = laws.pure_arm 31 _ _ tt c.in-31.is c.sft-wp.ensures

pub returns-then-keep-2 : goal.returns-then-keep-2
returns-then-keep-2 c = laws.lit_is true false _ c.in-32.is c.if-keep-2.true c.lit-wp-then-keep-2.ensures

pub returns-else-keep-2 : goal.returns-else-keep-2
returns-else-keep-2 c = laws.jci_is _ c.in-32.is c.if-keep-2.false c.jci-pc.ensures c.lower-wp-else-keep-2.ensures

pub returns-in-33 : goal.returns-in-33
returns-in-33 c = laws.pure_arm 33 _ _ tt c.in-33.is c.inc-wp-in-33.ensures

pub returns-in-34 : goal.returns-in-34
returns-in-34 c = laws.pure_arm 34 _ _ tt c.in-34.is c.pop-wp-in-34.ensures

pub returns-in-35 : goal.returns-in-35
returns-in-35 c = laws.pure_arm 35 _ _ tt c.in-35.is c.nip-wp-in-35.ensures

pub returns-in-36 : goal.returns-in-36
returns-in-36 c = laws.pure_arm 36 _ _ tt c.in-36.is c.swp-wp-in-36.ensures

pub returns-in-37 : goal.returns-in-37
returns-in-37 c = laws.pure_arm 37 _ _ tt c.in-37.is c.rot-wp-in-37.ensures

pub returns-in-38 : goal.returns-in-38
returns-in-38 c = laws.pure_arm 38 _ _ tt c.in-38.is c.dup-wp-in-38.ensures

pub returns-in-39 : goal.returns-in-39
returns-in-39 c = laws.pure_arm 39 _ _ tt c.in-39.is c.ovr-wp-in-39.ensures

pub returns-in-40 : goal.returns-in-40
returns-in-40 c = laws.pure_arm 40 _ _ tt c.in-40.is c.compare-wp-in-40.ensures

pub returns-in-41 : goal.returns-in-41
returns-in-41 c = laws.pure_arm 41 _ _ tt c.in-41.is c.compare-wp-in-41.ensures

pub returns-in-42 : goal.returns-in-42
returns-in-42 c = laws.pure_arm 42 _ _ tt c.in-42.is c.compare-wp-in-42.ensures

pub returns-in-43 : goal.returns-in-43
returns-in-43 c = laws.pure_arm 43 _ _ tt c.in-43.is c.compare-wp-in-43.ensures

pub returns-in-44 : goal.returns-in-44
returns-in-44 c = laws.arm 44 _ _ tt c.in-44.is (laws.jmp_is _ _ _ c.jmp-pc-in-44.ensures c.lower-wp-in-44.ensures)

pub returns-in-45 : goal.returns-in-45
returns-in-45 c = laws.arm 45 _ _ tt c.in-45.is (laws.jcn_is _ _ _ c.jcn-pc-in-45.ensures c.lower-wp-in-45.ensures)

pub returns-in-46 : goal.returns-in-46
returns-in-46 c = laws.arm 46 _ _ tt c.in-46.is (laws.jsr_is _ _ _ c.jmp-target-in-46.ensures c.push-rp-in-46.ensures c.lower-wp-in-46.ensures)

pub returns-in-47 : goal.returns-in-47
returns-in-47 c = laws.arm 47 _ _ tt c.in-47.is (laws.sth_is _ _ _ c.sth-rp-in-47.ensures c.lower-wp-in-47.ensures)

pub returns-in-48 : goal.returns-in-48
returns-in-48 c = laws.pure_arm 48 _ _ tt c.in-48.is c.ldz-wp-in-48.ensures

pub returns-in-49 : goal.returns-in-49
returns-in-49 c = laws.store_arm 49 _ _ tt c.in-49.is c.stz-in-49.ensures c.lower-wp-in-49.ensures

pub returns-in-50 : goal.returns-in-50
returns-in-50 c = laws.pure_arm 50 _ _ tt c.in-50.is c.ldr-wp-in-50.ensures

pub returns-in-51 : goal.returns-in-51
returns-in-51 c = laws.store_arm 51 _ _ tt c.in-51.is c.str-in-51.ensures c.lower-wp-in-51.ensures

pub returns-in-52 : goal.returns-in-52
returns-in-52 c = laws.pure_arm 52 _ _ tt c.in-52.is c.lda-wp-in-52.ensures

pub returns-in-53 : goal.returns-in-53
returns-in-53 c = laws.store_arm 53 _ _ tt c.in-53.is c.sta-in-53.ensures c.lower-wp-in-53.ensures

pub returns-in-54 : goal.returns-in-54
returns-in-54 c = laws.pure_arm 54 _ _ tt c.in-54.is c.dei-wp-in-54.ensures

pub returns-in-55 : goal.returns-in-55
returns-in-55 c = laws.deo_arm 55 _ _ tt c.in-55.is (laws.deo_is _ _ _ c.deo-in-55.ensures c.lower-wp-in-55.ensures) c.port_of-in-55.ensures

pub returns-in-56 : goal.returns-in-56
returns-in-56 c = laws.pure_arm 56 _ _ tt c.in-56.is c.compute-wp-in-56.ensures

pub returns-in-57 : goal.returns-in-57
returns-in-57 c = laws.pure_arm 57 _ _ tt c.in-57.is c.compute-wp-in-57.ensures

pub returns-in-58 : goal.returns-in-58
returns-in-58 c = laws.pure_arm 58 _ _ tt c.in-58.is c.compute-wp-in-58.ensures

pub returns-in-59 : goal.returns-in-59
returns-in-59 c = laws.pure_arm 59 _ _ tt c.in-59.is c.compute-wp-in-59.ensures

pub returns-in-60 : goal.returns-in-60
returns-in-60 c = laws.pure_arm 60 _ _ tt c.in-60.is c.compute-wp-in-60.ensures

pub returns-in-61 : goal.returns-in-61
returns-in-61 c = laws.pure_arm 61 _ _ tt c.in-61.is c.compute-wp-in-61.ensures

pub returns-in-62 : goal.returns-in-62
returns-in-62 c = laws.pure_arm 62 _ _ tt c.in-62.is c.compute-wp-in-62.ensures

pub returns-in-63 : goal.returns-in-63
returns-in-63 c = laws.pure_arm 63 _ _ tt c.in-63.is c.sft-wp-in-63.ensures

pub returns-then-keep-3 : goal.returns-then-keep-3
returns-then-keep-3 c = laws.lit_is false true _ c.in-64.is c.if-keep-3.true c.lit-rp.ensures

pub returns-else-keep-3 : goal.returns-else-keep-3
returns-else-keep-3 c = laws.jmi_is _ c.in-64.is c.if-keep-3.false c.offset-pc.ensures

pub returns-in-65 : goal.returns-in-65
returns-in-65 c = laws.pure_arm 65 _ _ tt c.in-65.is c.inc-rp.ensures

pub returns-in-66 : goal.returns-in-66
returns-in-66 c = laws.pure_arm 66 _ _ tt c.in-66.is c.pop-rp.ensures

pub returns-in-67 : goal.returns-in-67
returns-in-67 c = laws.pure_arm 67 _ _ tt c.in-67.is c.nip-rp.ensures

pub returns-in-68 : goal.returns-in-68
returns-in-68 c = laws.pure_arm 68 _ _ tt c.in-68.is c.swp-rp.ensures

pub returns-in-69 : goal.returns-in-69
returns-in-69 c = laws.pure_arm 69 _ _ tt c.in-69.is c.rot-rp.ensures

pub returns-in-70 : goal.returns-in-70
returns-in-70 c = laws.pure_arm 70 _ _ tt c.in-70.is c.dup-rp.ensures

pub returns-in-71 : goal.returns-in-71
returns-in-71 c = laws.pure_arm 71 _ _ tt c.in-71.is c.ovr-rp.ensures

pub returns-in-72 : goal.returns-in-72
returns-in-72 c = laws.pure_arm 72 _ _ tt c.in-72.is c.compare-rp.ensures

pub returns-in-73 : goal.returns-in-73
returns-in-73 c = laws.pure_arm 73 _ _ tt c.in-73.is c.compare-rp-in-73.ensures

pub returns-in-74 : goal.returns-in-74
returns-in-74 c = laws.pure_arm 74 _ _ tt c.in-74.is c.compare-rp-in-74.ensures

pub returns-in-75 : goal.returns-in-75
returns-in-75 c = laws.pure_arm 75 _ _ tt c.in-75.is c.compare-rp-in-75.ensures

pub returns-in-76 : goal.returns-in-76
returns-in-76 c = laws.arm 76 _ _ tt c.in-76.is (laws.jmp_is _ _ _ c.jmp-pc-in-76.ensures c.lower-rp.ensures)

pub returns-in-77 : goal.returns-in-77
returns-in-77 c = laws.arm 77 _ _ tt c.in-77.is (laws.jcn_is _ _ _ c.jcn-pc-in-77.ensures c.lower-rp-in-77.ensures)

pub returns-in-78 : goal.returns-in-78
returns-in-78 c = laws.arm 78 _ _ tt c.in-78.is (laws.jsr_is _ _ _ c.jmp-target-in-78.ensures c.push-wp.ensures c.lower-rp-in-78.ensures)

pub returns-in-79 : goal.returns-in-79
returns-in-79 c = laws.arm 79 _ _ tt c.in-79.is (laws.sth_is _ _ _ c.sth-wp.ensures c.lower-rp-in-79.ensures)

pub returns-in-80 : goal.returns-in-80
returns-in-80 c = laws.pure_arm 80 _ _ tt c.in-80.is c.ldz-rp.ensures

pub returns-in-81 : goal.returns-in-81
returns-in-81 c = laws.store_arm 81 _ _ tt c.in-81.is c.stz-in-81.ensures c.lower-rp-in-81.ensures

pub returns-in-82 : goal.returns-in-82
returns-in-82 c = laws.pure_arm 82 _ _ tt c.in-82.is c.ldr-rp.ensures

pub returns-in-83 : goal.returns-in-83
returns-in-83 c = laws.store_arm 83 _ _ tt c.in-83.is c.str-in-83.ensures c.lower-rp-in-83.ensures

pub returns-in-84 : goal.returns-in-84
returns-in-84 c = laws.pure_arm 84 _ _ tt c.in-84.is c.lda-rp.ensures

pub returns-in-85 : goal.returns-in-85
returns-in-85 c = laws.store_arm 85 _ _ tt c.in-85.is c.sta-in-85.ensures c.lower-rp-in-85.ensures

pub returns-in-86 : goal.returns-in-86
returns-in-86 c = laws.pure_arm 86 _ _ tt c.in-86.is c.dei-rp.ensures

pub returns-in-87 : goal.returns-in-87
returns-in-87 c = laws.deo_arm 87 _ _ tt c.in-87.is (laws.deo_is _ _ _ c.deo-in-87.ensures c.lower-rp-in-87.ensures) c.port_of-in-87.ensures

pub returns-in-88 : goal.returns-in-88
returns-in-88 c = laws.pure_arm 88 _ _ tt c.in-88.is c.compute-rp.ensures

pub returns-in-89 : goal.returns-in-89
returns-in-89 c = laws.pure_arm 89 _ _ tt c.in-89.is c.compute-rp-in-89.ensures

pub returns-in-90 : goal.returns-in-90
returns-in-90 c = laws.pure_arm 90 _ _ tt c.in-90.is c.compute-rp-in-90.ensures

pub returns-in-91 : goal.returns-in-91
returns-in-91 c = laws.pure_arm 91 _ _ tt c.in-91.is c.compute-rp-in-91.ensures

pub returns-in-92 : goal.returns-in-92
returns-in-92 c = laws.pure_arm 92 _ _ tt c.in-92.is c.compute-rp-in-92.ensures

pub returns-in-93 : goal.returns-in-93
returns-in-93 c = laws.pure_arm 93 _ _ tt c.in-93.is c.compute-rp-in-93.ensures

pub returns-in-94 : goal.returns-in-94
returns-in-94 c = laws.pure_arm 94 _ _ tt c.in-94.is c.compute-rp-in-94.ensures

pub returns-in-95 : goal.returns-in-95
returns-in-95 c = laws.pure_arm 95 _ _ tt c.in-95.is c.sft-rp.ensures

pub returns-then-keep-4 : goal.returns-then-keep-4
returns-then-keep-4 c = laws.lit_is true true _ c.in-96.is c.if-keep-4.true c.lit-rp-then-keep-4.ensures

pub returns-else-keep-4 : goal.returns-else-keep-4
returns-else-keep-4 c = laws.jsi_is _ c.in-96.is c.if-keep-4.false c.offset-pc-else-keep-4.ensures c.push-rp-else-keep-4.ensures

pub returns-in-97 : goal.returns-in-97
returns-in-97 c = laws.pure_arm 97 _ _ tt c.in-97.is c.inc-rp-in-97.ensures

pub returns-in-98 : goal.returns-in-98
returns-in-98 c = laws.pure_arm 98 _ _ tt c.in-98.is c.pop-rp-in-98.ensures

pub returns-in-99 : goal.returns-in-99
returns-in-99 c = laws.pure_arm 99 _ _ tt c.in-99.is c.nip-rp-in-99.ensures

pub returns-in-100 : goal.returns-in-100
returns-in-100 c = laws.pure_arm 100 _ _ tt c.in-100.is c.swp-rp-in-100.ensures

pub returns-in-101 : goal.returns-in-101
returns-in-101 c = laws.pure_arm 101 _ _ tt c.in-101.is c.rot-rp-in-101.ensures

pub returns-in-102 : goal.returns-in-102
returns-in-102 c = laws.pure_arm 102 _ _ tt c.in-102.is c.dup-rp-in-102.ensures

pub returns-in-103 : goal.returns-in-103
returns-in-103 c = laws.pure_arm 103 _ _ tt c.in-103.is c.ovr-rp-in-103.ensures

pub returns-in-104 : goal.returns-in-104
returns-in-104 c = laws.pure_arm 104 _ _ tt c.in-104.is c.compare-rp-in-104.ensures

pub returns-in-105 : goal.returns-in-105
returns-in-105 c = laws.pure_arm 105 _ _ tt c.in-105.is c.compare-rp-in-105.ensures

pub returns-in-106 : goal.returns-in-106
returns-in-106 c = laws.pure_arm 106 _ _ tt c.in-106.is c.compare-rp-in-106.ensures

pub returns-in-107 : goal.returns-in-107
returns-in-107 c = laws.pure_arm 107 _ _ tt c.in-107.is c.compare-rp-in-107.ensures

pub returns-in-108 : goal.returns-in-108
returns-in-108 c = laws.arm 108 _ _ tt c.in-108.is (laws.jmp_is _ _ _ c.jmp-pc-in-108.ensures c.lower-rp-in-108.ensures)

pub returns-in-109 : goal.returns-in-109
returns-in-109 c = laws.arm 109 _ _ tt c.in-109.is (laws.jcn_is _ _ _ c.jcn-pc-in-109.ensures c.lower-rp-in-109.ensures)

pub returns-in-110 : goal.returns-in-110
returns-in-110 c = laws.arm 110 _ _ tt c.in-110.is (laws.jsr_is _ _ _ c.jmp-target-in-110.ensures c.push-wp-in-110.ensures c.lower-rp-in-110.ensures)

pub returns-in-111 : goal.returns-in-111
returns-in-111 c = laws.arm 111 _ _ tt c.in-111.is (laws.sth_is _ _ _ c.sth-wp-in-111.ensures c.lower-rp-in-111.ensures)

pub returns-in-112 : goal.returns-in-112
returns-in-112 c = laws.pure_arm 112 _ _ tt c.in-112.is c.ldz-rp-in-112.ensures

pub returns-in-113 : goal.returns-in-113
returns-in-113 c = laws.store_arm 113 _ _ tt c.in-113.is c.stz-in-113.ensures c.lower-rp-in-113.ensures

pub returns-in-114 : goal.returns-in-114
returns-in-114 c = laws.pure_arm 114 _ _ tt c.in-114.is c.ldr-rp-in-114.ensures

pub returns-in-115 : goal.returns-in-115
returns-in-115 c = laws.store_arm 115 _ _ tt c.in-115.is c.str-in-115.ensures c.lower-rp-in-115.ensures

pub returns-in-116 : goal.returns-in-116
returns-in-116 c = laws.pure_arm 116 _ _ tt c.in-116.is c.lda-rp-in-116.ensures

pub returns-in-117 : goal.returns-in-117
returns-in-117 c = laws.store_arm 117 _ _ tt c.in-117.is c.sta-in-117.ensures c.lower-rp-in-117.ensures

pub returns-in-118 : goal.returns-in-118
returns-in-118 c = laws.pure_arm 118 _ _ tt c.in-118.is c.dei-rp-in-118.ensures

pub returns-in-119 : goal.returns-in-119
returns-in-119 c = laws.deo_arm 119 _ _ tt c.in-119.is (laws.deo_is _ _ _ c.deo-in-119.ensures c.lower-rp-in-119.ensures) c.port_of-in-119.ensures

pub returns-in-120 : goal.returns-in-120
returns-in-120 c = laws.pure_arm 120 _ _ tt c.in-120.is c.compute-rp-in-120.ensures

pub returns-in-121 : goal.returns-in-121
returns-in-121 c = laws.pure_arm 121 _ _ tt c.in-121.is c.compute-rp-in-121.ensures

pub returns-in-122 : goal.returns-in-122
returns-in-122 c = laws.pure_arm 122 _ _ tt c.in-122.is c.compute-rp-in-122.ensures

pub returns-in-123 : goal.returns-in-123
returns-in-123 c = laws.pure_arm 123 _ _ tt c.in-123.is c.compute-rp-in-123.ensures

pub returns-in-124 : goal.returns-in-124
returns-in-124 c = laws.pure_arm 124 _ _ tt c.in-124.is c.compute-rp-in-124.ensures

pub returns-in-125 : goal.returns-in-125
returns-in-125 c = laws.pure_arm 125 _ _ tt c.in-125.is c.compute-rp-in-125.ensures

pub returns-in-126 : goal.returns-in-126
returns-in-126 c = laws.pure_arm 126 _ _ tt c.in-126.is c.compute-rp-in-126.ensures

pub returns-in_default : goal.returns-in_default
returns-in_default c = laws.pure_arm 127 _ _ tt (omega arith) c.sft-rp-in_default.ensures
